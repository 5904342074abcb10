-- What a source or sink over a reader or a writer stores.
use Rattle.{pb_text.specs.declared.over.Over.Over, std.specs.Prelude.ℕ, std.specs.Prelude.List, std.specs.Prelude.Bool, std.specs.Prelude.Option}

abbrev pub inner_of : {T : Type 0} → Over T → T
inner_of o = o.inner

-- how many times it has failed
abbrev pub failures_of : {T : Type 0} → Over T → ℕ
failures_of o = o.failures

-- the bytes that its calls have given
abbrev pub history_of : {T : Type 0} → Over T → List ℕ
history_of o = o.history.bytes

-- the byte that was shown and not taken
abbrev pub shown_of : {T : Type 0} → Over T → Option ℕ
shown_of o = o.shown

-- whether the last peek has shown the end
abbrev pub ended_of : {T : Type 0} → Over T → Bool
ended_of o = o.ended
