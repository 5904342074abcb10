use Rattle.pb_normal.proofs.Common.{◌+◌, ◌∙◌, ◌≡◌, ◌≤◌, ap, arith, length, refl, ends_of, hashes_of, IsChained, nexts_of, with_items_is, NameEntry}
use Rattle.pb_normal.proofs.lemmas.names.Tables.{entries_after, numbers_after, IsTable-push, IsTable-same, listed-push}
use Rattle.pb_normal.proofs.names.table.put.Goals as goal

pub returns-in_err-extend_from_slice-clause-table : goal.returns-in_err-extend_from_slice-clause-table
returns-in_err-extend_from_slice-clause-table c = IsTable-same c.args.table.now _ _ _ _ c.in_err-extend_from_slice.ensures.items refl refl c.requires.table

pub link-requires-clause-chained : goal.link-requires-clause-chained
link-requires-clause-chained c = grind (arith, c.len-number.ensures, c.args.table.now.entries.ok.0, c.as_mut_slice.ensures.value, entries_after, c.as_mut_slice-2.ensures.value, c.requires.table.chained)

pub returns : goal.returns
returns c =
    let t = c.args.table.now in
    let pushed = c.as_mut_slice-2.ensures.value ∙ c.push_reserved.ensures.items in
    let bytes = rw c.as_bytes.ensures.value at c.in_ok-extend_from_slice.ensures.items in
    let end : c.len.result ≡ length t.bytes.items + length c.args.name.now = omega (arith, c.len.ensures, c.in_ok-extend_from_slice.ensures.len, c.as_bytes.ensures.len, t.bytes.ok.0) in
    let number : length c.link.new.entries ≡ c.len-number.result + 1 = omega (arith, c.link.ensures.entries, c.as_mut_slice-2.ensures.len, c.push_reserved.ensures.len, c.len-number.ensures) in
    let sized : length c.link.new.entries ≤ length c.link.new.heads = omega (arith, number, c.link.ensures.heads, ap length c.as_mut_slice.ensures.value, c.requires.heads, c.len-number.ensures, t.entries.ok.0) in
    let written = with_items_is c.push_reserved.new.self c.link.new.entries (c.link.ensures.entries ∙ c.as_mut_slice-2.ensures.len) in
    let linked = with_items_is t.heads c.link.new.heads (c.link.ensures.heads ∙ c.as_mut_slice.ensures.len) in
    let ends = c.link.ensures.ends ∙ numbers_after (λ (x : NameEntry). x.end) _ t.entries.items _ _ pushed end in
    let hashes = c.link.ensures.hashes ∙ numbers_after (λ (x : NameEntry). x.hash) _ t.entries.items _ _ pushed c.requires.hash in
    let chained : IsChained c.link.new.heads (hashes_of c.link.new.entries) (nexts_of c.link.new.entries) (length c.link.new.entries) = rw number c.link.ensures.chained in
    record {
      table = IsTable-push t c.args.name.now _ _ _ _ c.link.new.entries c.link.new.heads written linked bytes ends hashes chained sized c.utf8.name c.requires.absent c.requires.table;
      names = listed-push t _ c.args.name.now _ bytes (ap ends_of written ∙ ends) c.requires.table;
      err = tt;
    }
