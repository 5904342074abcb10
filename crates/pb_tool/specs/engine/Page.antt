-- A page in which a text is stored.
use Rattle.pb_text.specs.{declared.source.Failed.Failed, meaning.Writing.Writes}
use Rattle.{pb_tool.specs.declared.commands.tidy.page.Page.Page, std.specs.Prelude.ℕ, std.specs.Prelude.List, std.specs.Prelude.Some, std.specs.Prelude.Result}

-- What a write leaves in a page: the whole text, or a prefix of it and one more failure.
abbrev pub WritesPage : Page → List ℕ → Result Unit Failed → Page → Type 0
WritesPage = Writes (λ (p : Page). Some p.text) (λ (p : Page). p.failures)
