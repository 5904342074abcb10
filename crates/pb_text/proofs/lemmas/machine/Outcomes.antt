-- A byte has one outcome: a machine continues in one state, ends a statement with one event, or rejects the byte. Offered to
-- other crates.
use Rattle.pb_text.proofs.Common.{◌≡◌, End, Go, Next, Refuse}

pub one_state : {S E : Type 0} (u v : S) → ◌≡◌ {A = Next S E} (Go u) (Go v) → u ≡ v
one_state u v e = cc

pub one_end : {S E : Type 0} (d e : E) (u v : S) → ◌≡◌ {A = Next S E} (End d u) (End e v) → (d ≡ e) × (u ≡ v)
one_end d e u v h = ((let k : d ≡ e = cc in k), (let k : u ≡ v = cc in k))

pub go_or_end : {S E A : Type 0} (u : S) (e : E) (v : S) → ◌≡◌ {A = Next S E} (Go u) (End e v) → A
go_or_end u e v h = cc

pub go_or_refuse : {S E A : Type 0} (u : S) → ◌≡◌ {A = Next S E} (Go u) Refuse → A
go_or_refuse u h = cc

pub end_or_refuse : {S E A : Type 0} (e : E) (u : S) → ◌≡◌ {A = Next S E} (End e u) Refuse → A
end_or_refuse e u h = cc

-- the same, with the sides swapped
pub refuse_or_go : {S E A : Type 0} (u : S) → ◌≡◌ {A = Next S E} Refuse (Go u) → A
refuse_or_go u h = cc

pub refuse_or_end : {S E A : Type 0} (e : E) (u : S) → ◌≡◌ {A = Next S E} Refuse (End e u) → A
refuse_or_end e u h = cc

pub end_or_go : {S E A : Type 0} (e : E) (u v : S) → ◌≡◌ {A = Next S E} (End e u) (Go v) → A
end_or_go e u v h = cc
