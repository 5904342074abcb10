use Rattle.pb_pieces.proofs.Common.{ℕ, ◌∙◌, ap, List, Some}
use Rattle.pb_pieces.proofs.Ended.{ended, still, strays, true_of, verified, whole}
use Rattle.pb_pieces.proofs.session.Session.finish.Goals as goal

pub returns-in-Ok-rest_is_blank-clause-verified : goal.returns-in-Ok-rest_is_blank-clause-verified
returns-in-Ok-rest_is_blank-clause-verified c limits longest i fed s =
    verified limits longest i fed c.args.self.now c.finish.new.self c.in_default.is s c.in-Ok.verdict c.in-Ok.ensures.counts c.finish.ensures.place c.place.result c.place.ensures.place _ _
    (whole c.new-rest.result c.as_slice.result c.new-rest.ensures.inner c.new-rest.ensures.shown ∙ ap (λ (x : List ℕ). Some x) c.as_slice.ensures.value) c.in-Ok-rest_is_blank.ensures.blank

pub returns-in-Ok-rest_is_blank-clause-truth : goal.returns-in-Ok-rest_is_blank-clause-truth
returns-in-Ok-rest_is_blank-clause-truth c limits longest i fed s =
    true_of limits longest i fed c.args.self.now c.finish.new.self c.in_default.is s c.in-Ok.verdict c.in-Ok.ensures.counts c.finish.ensures.place c.place.result c.place.ensures.place _ _
    (whole c.new-rest.result c.as_slice.result c.new-rest.ensures.inner c.new-rest.ensures.shown ∙ ap (λ (x : List ℕ). Some x) c.as_slice.ensures.value) c.in-Ok-rest_is_blank.ensures.blank
    c.verified_is_true.ensures

pub returns-in-Some-clause-stands : goal.returns-in-Some-clause-stands
returns-in-Some-clause-stands c limits longest i fed s = s

pub returns-in-Ok-rest_is_blank-clause-stands : goal.returns-in-Ok-rest_is_blank-clause-stands
returns-in-Ok-rest_is_blank-clause-stands c limits longest i fed s = still limits longest i fed c.args.self.now c.finish.new.self c.in_default.is s c.in-Ok.ensures.ok

pub returns-in-Err-clause-stands : goal.returns-in-Err-clause-stands
returns-in-Err-clause-stands c limits longest i fed s = ended limits longest i fed c.args.self.now c.finish.new.self c.in_default.is s c.in-Err.fault c.in-Err.ensures.first c.in-Err.ensures.counts

pub returns-in-Err-rest_is_blank-clause-stands : goal.returns-in-Err-rest_is_blank-clause-stands
returns-in-Err-rest_is_blank-clause-stands c limits longest i fed s =
    strays limits longest i fed c.args.self.now c.finish.new.self c.in_default.is s c.in-Ok.verdict c.in-Ok.ensures.counts c.finish.ensures.place c.place.result c.place.ensures.place _ _
    (whole c.new-rest.result c.as_slice.result c.new-rest.ensures.inner c.new-rest.ensures.shown ∙ ap (λ (x : List ℕ). Some x) c.as_slice.ensures.value) _ c.in-Err-rest_is_blank.ensures.blank
