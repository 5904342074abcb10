use Rattle.pb_pieces.proofs.{Common.rules, Ended.opened, Ended.overflown, Ended.unopened, Ended.whole}
use Rattle.pb_pieces.proofs.session.Session.open.Goals as goal

pub returns-in-Ok-clause-opened : goal.returns-in-Ok-clause-opened
returns-in-Ok-clause-opened c =
    opened c.args.limits _ c.args.text.now _ (whole c.new-source.result c.args.text c.new-source.ensures.inner c.new-source.ensures.shown) c.unwrap_or-within.result c.unwrap_or-within.ensures _ c.in-Ok.replay c.new.result c.new-in-Ok.result
    c.in-Ok.ensures.opened c.new.ensures.counts c.new.ensures.running c.new-in-Ok.ensures.items

pub returns-in-Err-Text-clause-refused : goal.returns-in-Err-Text-clause-refused
returns-in-Err-Text-clause-refused c =
    let one = whole c.new-source.result c.args.text c.new-source.ensures.inner c.new-source.ensures.shown in
    let none = unopened c.args.limits _ c.args.text.now _ one c.unwrap_or-within.result c.unwrap_or-within.ensures _ c.in-Err-Text.field-0 c.in-Err-Text.ensures.opened in
    rw c.in-Err-Text.field-0-is (rw c.in-Err-Text.field-0-is at none)

pub returns-in-Err-Memory-clause-refused : goal.returns-in-Err-Memory-clause-refused
returns-in-Err-Memory-clause-refused c =
    let one = whole c.new-source.result c.args.text c.new-source.ensures.inner c.new-source.ensures.shown in
    let none = unopened c.args.limits _ c.args.text.now _ one c.unwrap_or-within.result c.unwrap_or-within.ensures _ c.in-Err-Memory.field-0 c.in-Err-Memory.ensures.opened in
    rw c.in-Err-Memory.field-0-is at none

pub returns : goal.returns
returns c =
    let one = whole c.new-source.result c.args.text c.new-source.ensures.inner c.new-source.ensures.shown in
    record {
      opened = tt;
      running = tt;
      refused = overflown c.args.limits _ c.args.text.now _ one c.unwrap_or-within.result c.unwrap_or-within.ensures _ c.in-Err.field-0 (search rules) (search rules) c.in-Err.ensures.opened;
    }
