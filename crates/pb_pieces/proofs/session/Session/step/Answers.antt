use Rattle.pb_pieces.proofs.Common.{◌+◌, ◌∙◌, add-zero, ap, Bool, cond, refl, sym}
use Rattle.pb_pieces.proofs.Fed.{exactly, fed_again, fed_rejected, unstored, went_on}
use Rattle.pb_pieces.proofs.session.Session.step.Goals as goal

pub returns-in-Some-clause-fed : goal.returns-in-Some-clause-fed
returns-in-Some-clause-fed c limits longest i fed s = fed_again limits longest i fed c.args.piece.now c.args.self.now c.in-Some.earlier c.in-Some.is s

pub returns-in-Some-clause-counts : goal.returns-in-Some-clause-counts
returns-in-Some-clause-counts c limits longest i fed s = sym (add-zero c.args.self.now.accepted)

pub returns-in-Err-clause-fed : goal.returns-in-Err-clause-fed
returns-in-Err-clause-fed c limits longest i fed s =
    let t = rw c.in-Err.is at c.step.ensures in
    fed_rejected limits longest i fed c.args.self.now c.in_default.is s c.step.new.self c.args.piece.now _ c.in-Err.fault t.counts t.fault t.memory refl refl

pub returns-in-Err-clause-counts : goal.returns-in-Err-clause-counts
returns-in-Err-clause-counts c limits longest i fed s = sym (add-zero c.args.self.now.accepted)

pub returns-in-Ok-settle-clause-fed : goal.returns-in-Ok-settle-clause-fed
returns-in-Ok-settle-clause-fed c limits longest i fed s =
    let t = rw c.in-Ok.is at c.step.ensures in
    let u = rw c.in-Ok-settle.is at c.settle.ensures in
    went_on limits longest i fed c.args.self.now c.in_default.is s c.step.new.self c.texts_are_read.ensures.read c.args.piece.now c.in-Ok.went t.fault t.used.0 t.onward (rw u.checker at u.reach) c.settle.new.self c.texts_are_read.ensures.free t.counts u.checker u.kept u.counts u.stores

pub returns-in-Ok-settle-clause-counts : goal.returns-in-Ok-settle-clause-counts
returns-in-Ok-settle-clause-counts c limits longest i fed s =
    let t = rw c.in-Ok.is at c.step.ensures in
    let u = rw c.in-Ok-settle.is at c.settle.ensures in
    exactly limits longest i fed c.args.self.now c.in_default.is s c.step.new.self c.in-Ok.went t.used.0 t.onward (rw u.checker at u.reach) c.settle.new.self u.counts

pub returns-in-Err-settle-clause-fed : goal.returns-in-Err-settle-clause-fed
returns-in-Err-settle-clause-fed c limits longest i fed s =
    let t = rw c.in-Ok.is at c.step.ensures in
    let u = rw c.in-Err-settle.is at c.settle.ensures in
    unstored limits longest i fed c.args.self.now c.in_default.is s c.step.new.self c.texts_are_read.ensures.read c.args.piece.now c.in-Ok.went t.fault t.used.0 t.onward (rw u.checker at u.reach) c.settle.new.self t.counts u.unstored.1 u.unstored.2 c.in-Err-settle.fault u.unstored.3 u.unstored.0 u.counts

pub returns-in-Err-settle-clause-counts : goal.returns-in-Err-settle-clause-counts
returns-in-Err-settle-clause-counts c limits longest i fed s =
    let t = rw c.in-Ok.is at c.step.ensures in
    let u = rw c.in-Err-settle.is at c.settle.ensures in
    exactly limits longest i fed c.args.self.now c.in_default.is s c.step.new.self c.in-Ok.went t.used.0 t.onward (rw u.checker at u.reach) c.settle.new.self u.counts
    ∙ ap (λ (b : Bool). c.args.self.now.accepted + cond b 1 0) u.unstored.1
