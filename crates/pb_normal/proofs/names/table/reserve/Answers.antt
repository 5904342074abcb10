use Rattle.pb_normal.proofs.Common.{◌∙◌, ◌≡◌, ◌≤◌, ap, arith, ends_of, hashes_of, IsChained, length, nexts_of, refl, with_items_is}
use Rattle.pb_normal.proofs.lemmas.names.Tables.{IsTable-linked, IsTable-same}
use Rattle.pb_normal.proofs.names.table.reserve.Goals as goal

pub returns-in_err-reserve-clause-table : goal.returns-in_err-reserve-clause-table
returns-in_err-reserve-clause-table c = IsTable-same c.args.table.now _ _ _ _ refl c.in_err-reserve.ensures.items refl c.requires

pub returns-else-number-len-clause-table : goal.returns-else-number-len-clause-table
returns-else-number-len-clause-table c = IsTable-same c.args.table.now _ _ _ _ refl c.in_ok-reserve.ensures.items refl c.requires

pub returns-in_err-table-clause-table : goal.returns-in_err-table-clause-table
returns-in_err-table-clause-table c =
    let written = with_items_is c.reserve.new.self c.relinked.new.entries (c.relinked.ensures.entries ∙ c.as_mut_slice.ensures.len) in
    let same : c.relinked.new.entries ≡ c.as_mut_slice.result.now = c.in_err-table.ensures.err in
    IsTable-same c.args.table.now _ _ _ _ refl (written ∙ same ∙ c.as_mut_slice.ensures.value ∙ c.in_ok-reserve.ensures.items) refl c.requires

pub returns-in_ok-table-clause-table : goal.returns-in_ok-table-clause-table
returns-in_ok-table-clause-table c =
    let before = c.as_mut_slice.ensures.value ∙ c.in_ok-reserve.ensures.items in
    let written = with_items_is c.reserve.new.self c.relinked.new.entries (c.relinked.ensures.entries ∙ c.as_mut_slice.ensures.len) in
    let chained : IsChained c.in_ok-table.field-0.items (hashes_of c.relinked.new.entries) (nexts_of c.relinked.new.entries) (length c.relinked.new.entries) = c.in_ok-table.ensures.chained in
    let count = c.in_ok-table.ensures.count in
    let sized : length c.relinked.new.entries ≤ length c.in_ok-table.field-0.items = omega (arith, c.relinked.ensures.entries, ap length before, count, c.len-number.ensures, c.args.table.now.entries.ok.0) in
    IsTable-linked c.args.table.now _ _ _ _ c.relinked.new.entries c.in_ok-table.field-0.items written refl refl (c.relinked.ensures.ends ∙ ap ends_of before) (c.relinked.ensures.hashes ∙ ap hashes_of before) chained sized c.requires
