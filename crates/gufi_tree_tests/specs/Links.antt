-- A sum without a link is of rows without one.
use Rattle.std.proofs.Common.{◌≡◌, ℕ, ◌+◌, Bool, true, false, cond, List, [], ◌∷◌, refl, ap, arith}
use Rattle.std.specs.Prelude.{nat_lt, All}
use Rattle.std.proofs.lemmas.Bool.{ltb-true, lt-ltb}
use Rattle.std.proofs.lemmas.List.Elements.{All-nil, All-cons}
use Rattle.gufi_base.specs.declared.record.Row.{Row}
use Rattle.gufi_base.specs.Kinds.{is_link}
use Rattle.gufi_sums.specs.declared.summary.Summary.{Summary}
use Rattle.gufi_sums.specs.Total.{total, join, NoneMeets}
use Rattle.gufi_sums.specs.Laws.{total-append}

abbrev IsNoLink : Row → Type 0
IsNoLink row = (depth : ℕ) → is_link row.rec.meta.kind ≡ false

none_of : (rows : List Row) → (total rows).links ≡ 0 → All IsNoLink rows
unfolding total
none_of [] e = All-nil IsNoLink
none_of (row ∷ rows) e =
    let joined : (total (row ∷ rows)).links ≡ 0 + cond (is_link row.rec.meta.kind) 1 0 + (total rows).links = ap (λ (s : Summary). s.links) (total-append (row ∷ []) rows) in
    by (none_of rows) (is_link row.rec.meta.kind) refl (omega (arith, joined, e)) where
      by : ((total rows).links ≡ 0 → All IsNoLink rows) → (b : Bool) → is_link row.rec.meta.kind ≡ b → 0 + cond b 1 0 + (total rows).links ≡ 0 → All IsNoLink (row ∷ rows)
      by more true same z = absurd (omega (arith, z))
      by more false same z = All-cons IsNoLink row rows (λ depth. same) (more (omega (arith, z)))

pub links_sound : (sum : Summary) → nat_lt sum.links 1 ≡ true → (rows : List Row) → total rows ≡ sum → NoneMeets (λ row depth. is_link row.rec.meta.kind) rows
links_sound sum none rows is = none_of rows (omega (arith, ltb-true sum.links 1 none, ap (λ (s : Summary). s.links) is))

pub links_parts : (a b : Summary) → nat_lt (join a b).links 1 ≡ true → (nat_lt a.links 1 ≡ true) × (nat_lt b.links 1 ≡ true)
links_parts a b none =
    let few = ltb-true (a.links + b.links) 1 none in
    (lt-ltb a.links 1 (omega (arith, few)), lt-ltb b.links 1 (omega (arith, few)))
