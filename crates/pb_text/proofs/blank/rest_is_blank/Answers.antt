use Rattle.pb_text.proofs.Common.{ℕ, ◌&&◌, ◌++◌, ◌||◌, ◌∙◌, ◌∷◌, ◌≡◌, [], ap, arith, Bool, length-append, List, nat_eq, not, refl, rules, sym, Place}
use Rattle.pb_text.proofs.Common.{◌+◌, ◌<◌, false, in_comment, length, Nothing, passes, is_white, place_next, byte_limit, Byte}
use Rattle.pb_text.proofs.lemmas.{machine.Running.past_more, source.Drawn.lost_byte, source.Drawn.given_byte, source.Drawn.seen_byte, source.Drawn.seen_end, source.Drawn.seen_rest}
use Rattle.pb_text.proofs.lemmas.text.Blanks.{IsBlank-snoc, in_comment-snoc, next_within}
use Rattle.pb_text.specs.meaning.Blank.{IsStray}
use Rattle.pb_text.proofs.blank.rest_is_blank.Goals as goal

pub loop-byte-init : goal.loop-byte-init
loop-byte-init g c = search (rules, Nothing)

pub returns-then-at-eq-BYTE_LIMIT-clause-blank : goal.returns-then-at-eq-BYTE_LIMIT-clause-blank
returns-then-at-eq-BYTE_LIMIT-clause-blank g c =
    let i = c.loop-byte.invariant.blank in
    let p = rw (c.in-Ok-Some.is, c.in-Ok-Some.field-0-is) at c.peek.ensures in
    let seen = seen_byte (g.S.Source.left c.args.source.now) i.0 (g.S.Source.left c.loop-byte.source) (g.S.Source.left c.peek.new.self) c.in-Ok-Some.byte i.1 p.0 p.1 in
    (i.0, c.in-Ok-Some.byte ∷ seen.0, seen.1, i.2, i.3, ((λ e. cc), omega (arith, i.4, c.if-at-eq-BYTE_LIMIT.true)))

at_comment : (used : List ℕ) (b : ℕ) (inside answer : Bool) → inside ≡ in_comment used → answer ≡ (is_white b || nat_eq b 42 || inside) → answer ≡ passes used b
at_comment used b inside answer e h = h ∙ ap (λ (x : Bool). is_white b || nat_eq b 42 || x) e

-- the byte does not belong there
stray : (place : Place) (used : List ℕ) (b : ℕ) (more : List ℕ) (inside answer : Bool) → inside ≡ in_comment used → answer ≡ (is_white b || nat_eq b 42 || inside) → answer ≡ false
    → place.offset + length used < byte_limit → IsStray place used (b ∷ more) (Byte b)
stray place used b more inside answer e h f less = (more, refl, sym (at_comment used b inside answer e h) ∙ f, less)

pub returns-then-not-passes-clause-blank : goal.returns-then-not-passes-clause-blank
returns-then-not-passes-clause-blank g c =
    let i = c.loop-byte.invariant.blank in
    let p = rw (c.in-Ok-Some.is, c.in-Ok-Some.field-0-is) at c.peek.ensures in
    let b : ℕ = c.in-Ok-Some.byte in
    let seen = seen_byte (g.S.Source.left c.args.source.now) i.0 (g.S.Source.left c.loop-byte.source) (g.S.Source.left c.peek.new.self) b i.1 p.0 p.1 in
    let s = stray c.args.place i.0 b seen.0 c.loop-byte.in_comment c.passes.result i.5 c.passes.ensures c.if-not-passes.true
    (omega (arith, i.4, c.loop-byte.invariant.within, c.if-at-eq-BYTE_LIMIT.false)) in
    (i.0, b ∷ seen.0, seen.1, i.2, i.3, s)

pub loop-byte-preserved : goal.loop-byte-preserved
loop-byte-preserved g c =
    let i = c.loop-byte.invariant.blank in let v = c.loop-byte.invariant in
    let p = rw (c.in-Ok-Some.is, c.in-Ok-Some.field-0-is) at c.peek.ensures in
    let b : ℕ = c.in-Ok-Some.byte in
    let n = next_within c.loop-byte.at b c.after-at.result c.after-at.ensures v.within c.if-at-eq-BYTE_LIMIT.false v.line v.column in
    record {
      within = n.0;
      line = n.1;
      column = n.2;
      faults = c.skip.ensures.1 ∙ (p.3 ∙ v.faults);
      blank = (
        i.0 ++ b ∷ [],
        lost_byte (g.S.Source.left c.args.source.now) i.0 (g.S.Source.left c.loop-byte.source) (g.S.Source.left c.peek.new.self) (g.S.Source.left c.skip.new.self) b i.1 p.0 p.1 c.skip.ensures.0,
        IsBlank-snoc i.0 b i.2 (sym (at_comment i.0 b c.loop-byte.in_comment c.passes.result i.5 c.passes.ensures) ∙ c.if-not-passes.false),
        c.after-at.ensures ∙ (ap (λ (q : Place). place_next q b) i.3 ∙ sym (past_more c.args.place i.0 b)),
        omega (arith, n.3, i.4, length-append i.0 (b ∷ [])),
        c.stays_in_comment-in_comment.ensures ∙ (ap (λ (x : Bool). not (nat_eq b 10) && (nat_eq b 42 || x)) i.5 ∙ sym (in_comment-snoc i.0 b)),
        given_byte (g.S.Source.history c.args.source.now) i.0 (g.S.Source.history c.loop-byte.source) (g.S.Source.history c.peek.new.self) (g.S.Source.history c.skip.new.self) b i.6 p.4 (c.skip.ensures.2 b p.2),
      );
    }

pub returns-then-at-eq-BYTE_LIMIT-clause-given : goal.returns-then-at-eq-BYTE_LIMIT-clause-given
returns-then-at-eq-BYTE_LIMIT-clause-given g c =
    let i = c.loop-byte.invariant.blank in
    let p = rw (c.in-Ok-Some.is, c.in-Ok-Some.field-0-is) at c.peek.ensures in
    (i.0, c.in-Ok-Some.byte ∷ [], p.4 ∙ i.6, (i.0, c.in-Ok-Some.byte ∷ [], (refl, refl), i.2, i.3, ((λ e. cc), omega (arith, i.4, c.if-at-eq-BYTE_LIMIT.true))))

pub returns-then-not-passes-clause-given : goal.returns-then-not-passes-clause-given
returns-then-not-passes-clause-given g c =
    let i = c.loop-byte.invariant.blank in
    let p = rw (c.in-Ok-Some.is, c.in-Ok-Some.field-0-is) at c.peek.ensures in
    let b : ℕ = c.in-Ok-Some.byte in
    let s = stray c.args.place i.0 b [] c.loop-byte.in_comment c.passes.result i.5 c.passes.ensures c.if-not-passes.true
    (omega (arith, i.4, c.loop-byte.invariant.within, c.if-at-eq-BYTE_LIMIT.false)) in
    (i.0, b ∷ [], p.4 ∙ i.6, (i.0, b ∷ [], (refl, refl), i.2, i.3, s))

pub returns-in-Ok-None-clause-given : goal.returns-in-Ok-None-clause-given
returns-in-Ok-None-clause-given g c =
    let i = c.loop-byte.invariant.blank in
    let p = rw (c.in-Ok-None.is, c.in-Ok-None.field-0-is) at c.peek.ensures in
    (i.0, [], p.3 ∙ i.6, (i.0, (refl, refl), i.2, omega (arith, i.4, c.loop-byte.invariant.within)))

pub returns-in-Err-clause-given : goal.returns-in-Err-clause-given
returns-in-Err-clause-given g c =
    let i = c.loop-byte.invariant.blank in
    let p = rw c.in-Err.is at c.peek.ensures in (i.0, [], p.2 ∙ i.6, (i.0, [], (refl, refl), i.2, i.3, tt))

pub returns-in-Ok-None-clause-blank : goal.returns-in-Ok-None-clause-blank
returns-in-Ok-None-clause-blank g c =
    let i = c.loop-byte.invariant.blank in
    let p = rw (c.in-Ok-None.is, c.in-Ok-None.field-0-is) at c.peek.ensures in
    let seen = seen_end (g.S.Source.left c.args.source.now) i.0 (g.S.Source.left c.loop-byte.source) (g.S.Source.left c.peek.new.self) i.1 p.0 p.1 in
    (i.0, seen, i.2, omega (arith, i.4, c.loop-byte.invariant.within))

pub returns-in-Err-clause-blank : goal.returns-in-Err-clause-blank
returns-in-Err-clause-blank g c =
    let i = c.loop-byte.invariant.blank in
    let p = rw c.in-Err.is at c.peek.ensures in
    let seen = seen_rest (g.S.Source.left c.args.source.now) i.0 (g.S.Source.left c.loop-byte.source) (g.S.Source.left c.peek.new.self) i.1 p.0 in
    (i.0, seen.0, seen.1, i.2, i.3, tt)
