use Rattle.pb_normal.proofs.sum.Sum.joined.Goals as goal

pub returns : goal.returns
returns c =
    let whole = rw (c.form-2.ensures.same, c.in_ok-listing.ensures.same, c.form-3.ensures.same, c.in_ok-other.ensures.same) at c.in_ok-sum.ensures.sum in
    record { sum = rw (c.self.view_is, c.other-2.view_is) at whole }
