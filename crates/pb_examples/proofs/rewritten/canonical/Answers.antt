use Rattle.pb_examples.{proofs.Sound.whole, specs.Rewritten.IsRewritten, specs.Rewritten.IsTextOf}
use Rattle.pb_opb.specs.{contract.Canonical.instance_bytes, contract.Laws.CanonicalInstance, contract.Laws.InstanceValues, declared.Instance.Instance}
use Rattle.pb_opb.specs.{declared.OpbEvent.OpbEvent, meaning.Instances.IsInstance, meaning.Reading.ReadsInstance, meaning.Values.IsValueOf}
use Rattle.pb_text.specs.{declared.Spanned.Spanned, meaning.Reading.byte_limit, meaning.Spelling.Item, meaning.Spelling.bytes_of, meaning.Whole.events_of}
use Rattle.std.proofs.Common.{arith, ◌≡◌, ◌∙◌, ℕ, ◌-◌, ◌^◌, ◌<◌, List, [], ◌++◌, sym, Vec, Option, Some, Ok, ap, subst}
use Rattle.std.specs.declared.alloc.Global.{Global}
use Rattle.pb_examples.proofs.rewritten.canonical.Goals as goal

-- what a sink that was empty has after a write is what was written
filled : (before after bytes text : List ℕ) → after ≡ before ++ text → before ≡ [] → bytes ≡ after → bytes ≡ text
filled before after bytes text grown empty same = same ∙ grown ∙ ap (λ (xs : List ℕ). xs ++ text) empty

module _ (limit top : ℕ) (l : limit ≡ 2 ^ 127 - 1) (t : top ≡ 2 ^ 63 - 1) where
  text_of : (v : Instance) (items : List (Item OpbEvent)) (bytes : List ℕ) → IsInstance limit top items → bytes_of items ≡ bytes → IsValueOf (events_of items) v → IsTextOf v bytes
  text_of v items bytes h are value =
      (items, subst (λ (x : ℕ). IsInstance x (2 ^ 63 - 1) items) l (subst (λ (x : ℕ). IsInstance limit x items) t h), are, value)

  rewritten : CanonicalInstance → InstanceValues → (text : List ℕ) (left after : Option (List ℕ)) (m : Spanned Instance) → left ≡ Some text
      → ReadsInstance limit top byte_limit left (Ok m) after → (bytes : List ℕ) → bytes ≡ instance_bytes m.event → IsRewritten text bytes
  rewritten spells values text left after m is reads bytes written =
      let (used, seen, took, read) = subst (λ (x : Option (List ℕ)). ReadsInstance limit top byte_limit x (Ok m) after) is reads in
      let s = read.spelled in
      let small : limit < 2 ^ 127 = omega (arith, l) in
      let few : top < 2 ^ 63 = omega (arith, t) in
      let (items, spelled, are, value) = spells limit top m.event small few (values limit top s.items m.event s.spelled read.value).0 in
      record {
        instance = m.event;
        used = used;
        rest = seen;
        text_is = took.0;
        read = text_of m.event s.items used s.spelled s.used_are read.value;
        canonical = written;
        written = text_of m.event items bytes spelled (are ∙ sym written) value;
      }

pub returns-in-Ok : goal.returns-in-Ok
returns-in-Ok c = record {
  same = rewritten _ _ (ap (λ (b : ℕ). 2 ^ b - 1) c.full.ensures.bits) c.full.ensures.top
      c.canonical_instance_spells.ensures c.instances_are_values.ensures c.args.text.now _ _ c.in_ok-read.read
      (whole c.new.result c.args.text c.new.ensures.inner c.new.ensures.shown) c.in_ok-read.ensures.reads c.into_inner.result.items
      (filled c.new-out.result.inner.items c.write_instance.new.out.inner.items c.into_inner.result.items (instance_bytes c.in_ok-read.read.event) c.in-Ok.ensures.appends (ap (λ (v : Vec ℕ Global). v.items) c.new-out.ensures.inner ∙ c.new-2.ensures.items)
      (ap (λ (v : Vec ℕ Global). v.items) c.into_inner.ensures));
}
