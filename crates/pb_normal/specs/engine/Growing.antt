-- The form of a list or of a tree
use Rattle.pb_normal.specs.declared.kind.{Kind.Kind, Kind.TheVariants.Listing as Listed, Kind.TheVariants.Tree, Listing.Listing}
use Rattle.pb_normal.specs.{declared.kind.Listing.TheVariants.Held, declared.kind.Listing.TheVariants.Made, meaning.Form.Form}

abbrev pub listing_form : Listing → Form
listing_form (Held f) = f.now
listing_form (Made f) = f

abbrev pub kind_form : Kind → Form
kind_form (Listed l) = listing_form l
kind_form (Tree t) = t
