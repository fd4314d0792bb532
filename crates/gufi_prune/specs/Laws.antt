-- Laws of sums that leave no room for a match.
use Rattle.std.proofs.Common.{◌≡◌, ℕ, ◌≤◌, Bool, true, false, not, List, [], ◌∷◌, ◌⊎◌, refl, sym, ap, ◌∙◌, subst, inl, inr, arith, min, max}
use Rattle.std.specs.Prelude.{◌==◌, ◌&&◌, ◌||◌, ◌^◌, Option, Some, None, nat_le, nat_lt, int_le, int_lt, ℤ, pos, neg_ℤ, All, if◌then◌else◌}
use Rattle.std.specs.Int.{int_min, int_max}
use Rattle.std.proofs.Math.Bool.{or-true}
use Rattle.std.specs.Cmp.Derive.{both_true}
use Rattle.std.proofs.lemmas.List.Elements.{All-nil, All-cons, All-head, All-tail, All-weaker}
use Rattle.std.proofs.lemmas.Bool.{cases_Bool, false≢true, false_from_ne_true, and_parts, ltb-true, lt-ltb, leb-true, le-leb, eqb-true, eq-eqb}
use Rattle.std.proofs.lemmas.Int.{ints, clamps}
use Rattle.gufi_base.specs.declared.record.Kind.{Kind}
use Rattle.gufi_base.specs.declared.record.Kind.TheVariants.{Block, Char, Dir, Link, Fifo, File, Socket}
use Rattle.gufi_base.specs.declared.record.Meta.{Meta}
use Rattle.gufi_base.specs.Kinds.{kind_letter, is_file}
use Rattle.gufi_base.specs.declared.record.Row.{Row}
use Rattle.gufi_base.specs.declared.hint.Hint.{Hint}
use Rattle.gufi_base.specs.declared.hint.Hint.TheVariants as hints
use Rattle.gufi_formula.specs.Formulas.{Formula, test, negation, both, either}
use Rattle.gufi_formula.specs.Hints.{Chance, certain, is_in, chance, chance_at, chance_told, chance_or, fits_sums, formula_of, may_hold}
use Rattle.gufi_sums.specs.declared.summary.Summary.{Summary}
use Rattle.gufi_sums.specs.Depths.{is_within, within_most}
use Rattle.gufi_sums.specs.Total.{span, join, total, meta_total, NoneMeets}
use Rattle.gufi_sums.specs.Laws.{total-append, total_of-one}
use Rattle.gufi_prune.specs.declared.class.Class.{Class}
use Rattle.gufi_prune.specs.declared.class.Class.TheVariants.{Dirs, Files, Links, Others}
use Rattle.gufi_prune.specs.NoMatch.{is_of, count_of, is_below, are_times, fits, chance_within, chance_of_kind, chance_of_size, chance_in, chance_alone, open_chance, closed_chance, may_meet, always_may_meet, no_match, may_meet_at, Pruning}

-- what may be in the first may be in the second
pub record Below (a b : Chance) : Type 0 where
  pub holds : a.holds ≡ true → b.holds ≡ true
  pub fails : a.fails ≡ true → b.fails ≡ true

Below-same : (a : Chance) → Below a a
Below-same a = record { holds = λ e. e; fails = λ e. e }

Below-open : (a : Chance) → Below a open_chance
Below-open a = record { holds = λ e. refl; fails = λ e. refl }

Below-closed : (b : Chance) → Below closed_chance b
Below-closed b = record { holds = λ e. absurd (false≢true e); fails = λ e. absurd (false≢true e) }

Below-trans : (a b c : Chance) → Below a b → Below b c → Below a c
Below-trans a b c f g = record { holds = λ e. g.holds (f.holds e); fails = λ e. g.fails (f.fails e) }

and-grows : (p q s t : Bool) → (p ≡ true → s ≡ true) → (q ≡ true → t ≡ true) → p && q ≡ true → s && t ≡ true
and-grows true true s t f g e = rw (f refl, g refl) refl
and-grows true false s t f g e = absurd (false≢true e)
and-grows false q s t f g e = absurd (false≢true e)

or-grows : (p q s t : Bool) → (p ≡ true → s ≡ true) → (q ≡ true → t ≡ true) → p || q ≡ true → s || t ≡ true
or-grows true q s t f g e = rw (f refl) refl
or-grows false true s t f g e = rw (g refl) (or-true s)
or-grows false false s t f g e = absurd (false≢true e)

not-grows : (p s : Bool) → (s ≡ true → p ≡ true) → not p ≡ true → not s ≡ true
not-grows true s f e = absurd (false≢true e)
not-grows false true f e = absurd (false≢true (f refl))
not-grows false false f e = refl

-- a formula grows with its tests
pub chance-grows : (a b : Hint → Chance) → ((hint : Hint) → Below (a hint) (b hint)) → (f : Formula Hint) → Below (chance a f) (chance b f)
chance-grows a b h (test hint) = h hint
chance-grows a b h (negation f) = let k = chance-grows a b h f in record { holds = k.fails; fails = k.holds }
chance-grows a b h (both f g) =
    let k = chance-grows a b h f in
    let l = chance-grows a b h g in
    record { holds = and-grows _ _ _ _ k.holds l.holds; fails = or-grows _ _ _ _ k.fails l.fails }
chance-grows a b h (either f g) =
    let k = chance-grows a b h f in
    let l = chance-grows a b h g in
    record { holds = or-grows _ _ _ _ k.holds l.holds; fails = and-grows _ _ _ _ k.fails l.fails }

pub chance_or-grows : (a b : Hint → Chance) → ((hint : Hint) → Below (a hint) (b hint)) → (f : Option (Formula Hint)) → Below (chance_or a f) (chance_or b f)
chance_or-grows a b h None = Below-same _
chance_or-grows a b h (Some f) = chance-grows a b h f

-- ---- two sums joined

-- what an order says of a least and a greatest value
record Spans {A : Type 0} (le : A → A → Bool) (least greatest : A → A → A) : Type 0 where
  low : (a b y : A) → (le a y ≡ true) ⊎ (le b y ≡ true) → le (least a b) y ≡ true
  high : (x a b : A) → (le x a ≡ true) ⊎ (le x b ≡ true) → le x (greatest a b) ≡ true
  low_back : (x a b : A) → le x (least a b) ≡ true → (le x a ≡ true) × (le x b ≡ true)
  high_back : (a b y : A) → le (greatest a b) y ≡ true → (le a y ≡ true) × (le b y ≡ true)

nat_low : (a b y : ℕ) → (nat_le a y ≡ true) ⊎ (nat_le b y ≡ true) → nat_le (min a b) y ≡ true
nat_low a b y (inl h) = let k = leb-true a y h in le-leb (min a b) y (omega (arith, k))
nat_low a b y (inr h) = let k = leb-true b y h in le-leb (min a b) y (omega (arith, k))

nat_high : (x a b : ℕ) → (nat_le x a ≡ true) ⊎ (nat_le x b ≡ true) → nat_le x (max a b) ≡ true
nat_high x a b (inl h) = let k = leb-true x a h in le-leb x (max a b) (omega (arith, k))
nat_high x a b (inr h) = let k = leb-true x b h in le-leb x (max a b) (omega (arith, k))

nat_low_back : (x a b : ℕ) → nat_le x (min a b) ≡ true → (nat_le x a ≡ true) × (nat_le x b ≡ true)
nat_low_back x a b h = let k = leb-true x (min a b) h in (le-leb x a (omega (arith, k)), le-leb x b (omega (arith, k)))

nat_high_back : (a b y : ℕ) → nat_le (max a b) y ≡ true → (nat_le a y ≡ true) × (nat_le b y ≡ true)
nat_high_back a b y h = let k = leb-true (max a b) y h in (le-leb a y (omega (arith, k)), le-leb b y (omega (arith, k)))

nat_spans : Spans nat_le min max
nat_spans = record { low = nat_low; high = nat_high; low_back = nat_low_back; high_back = nat_high_back }

int_true : (a b : ℤ) → (int_le a b ≡ false → ⊥) → int_le a b ≡ true
int_true a b h = elim (cases_Bool (int_le a b)) [ inl so ↦ so | inr off ↦ absurd (h off) ]

int_low : (a b y : ℤ) → (int_le a y ≡ true) ⊎ (int_le b y ≡ true) → int_le (int_min a b) y ≡ true
int_low a b y (inl h) = int_true (int_min a b) y (λ no. omega (arith, ints, clamps, h, no))
int_low a b y (inr h) = int_true (int_min a b) y (λ no. omega (arith, ints, clamps, h, no))

int_high : (x a b : ℤ) → (int_le x a ≡ true) ⊎ (int_le x b ≡ true) → int_le x (int_max a b) ≡ true
int_high x a b (inl h) = int_true x (int_max a b) (λ no. omega (arith, ints, clamps, h, no))
int_high x a b (inr h) = int_true x (int_max a b) (λ no. omega (arith, ints, clamps, h, no))

int_low_back : (x a b : ℤ) → int_le x (int_min a b) ≡ true → (int_le x a ≡ true) × (int_le x b ≡ true)
int_low_back x a b h = (int_true x a (λ no. omega (arith, ints, clamps, h, no)), int_true x b (λ no. omega (arith, ints, clamps, h, no)))

int_high_back : (a b y : ℤ) → int_le (int_max a b) y ≡ true → (int_le a y ≡ true) × (int_le b y ≡ true)
int_high_back a b y h = (int_true a y (λ no. omega (arith, ints, clamps, h, no)), int_true b y (λ no. omega (arith, ints, clamps, h, no)))

int_spans : Spans int_le int_min int_max
int_spans = record { low = int_low; high = int_high; low_back = int_low_back; high_back = int_high_back }

module _ {A : Type 0} (le : A → A → Bool) (least greatest : A → A → A) (laws : Spans le least greatest) (first last : A) where
  -- what may be of one of two pairs may be of both joined
  within-left : (a b : Option (A × A)) → Below (chance_within le first last a) (chance_within le first last (span least greatest a b))
  within-left None b = record { holds = λ e. absurd (false≢true e); fails = λ e. absurd (false≢true e) }
  within-left (Some a) None = Below-same _
  within-left (Some a) (Some b) = record {
    holds = and-grows _ _ _ _ (λ e. e) (and-grows _ _ _ _ (λ e. laws.high first a.1 b.1 (inl e)) (λ e. laws.low a.0 b.0 last (inl e)));
    fails = not-grows _ _ (and-grows _ _ _ _ (λ e. (laws.low_back first a.0 b.0 e).0) (λ e. (laws.high_back a.1 b.1 last e).0));
  }

  within-right : (a b : Option (A × A)) → Below (chance_within le first last b) (chance_within le first last (span least greatest a b))
  within-right None b = Below-same _
  within-right (Some a) None = record { holds = λ e. absurd (false≢true e); fails = λ e. absurd (false≢true e) }
  within-right (Some a) (Some b) = record {
    holds = and-grows _ _ _ _ (λ e. e) (and-grows _ _ _ _ (λ e. laws.high first a.1 b.1 (inr e)) (λ e. laws.low a.0 b.0 last (inr e)));
    fails = not-grows _ _ (and-grows _ _ _ _ (λ e. (laws.low_back first a.0 b.0 e).1) (λ e. (laws.high_back a.1 b.1 last e).1));
  }

  -- a value in a pair of itself
  within-one : (x : A) → ((y z w : A) → le y z ≡ true → le z w ≡ true → le y w ≡ true)
      → Below (certain (le first x && le x last)) (chance_within le first last (Some (x, x)))
  within-one x through = record { holds = λ e. by e; fails = λ e. e } where
    parts : (p q : Bool) → p && q ≡ true → (p ≡ true) × (q ≡ true)
    parts true q e = (refl, e)
    parts false q e = absurd (false≢true e)

    by : le first x && le x last ≡ true → le first last && (le first x && le x last) ≡ true
    by e = let h = parts (le first x) (le x last) e in rw (through first x last h.0 h.1, h.0, h.1) refl

-- ---- hints

chance_in-left : (class : Class) (a b : Summary) (hint : Hint) → Below (chance_in class a hint) (chance_in class (join a b) hint)
chance_in-left class a b (hints.Kind kind) = Below-same _
chance_in-left Dirs a b (hints.SizeIn first last) = Below-same _
chance_in-left Files a b (hints.SizeIn first last) = within-left nat_le min max nat_spans first last a.size b.size
chance_in-left Links a b (hints.SizeIn first last) = Below-same _
chance_in-left Others a b (hints.SizeIn first last) = Below-same _
chance_in-left class a b (hints.MtimeIn first last) = within-left int_le int_min int_max int_spans first last a.mtime b.mtime
chance_in-left class a b (hints.UidIn first last) = within-left nat_le min max nat_spans first last a.uid b.uid
chance_in-left class a b (hints.GidIn first last) = within-left nat_le min max nat_spans first last a.gid b.gid
chance_in-left class a b hints.Unknown = Below-same _
chance_in-left class a b hints.Not = Below-same _
chance_in-left class a b hints.And = Below-same _
chance_in-left class a b hints.Or = Below-same _

chance_in-right : (class : Class) (a b : Summary) (hint : Hint) → Below (chance_in class b hint) (chance_in class (join a b) hint)
chance_in-right class a b (hints.Kind kind) = Below-same _
chance_in-right Dirs a b (hints.SizeIn first last) = Below-same _
chance_in-right Files a b (hints.SizeIn first last) = within-right nat_le min max nat_spans first last a.size b.size
chance_in-right Links a b (hints.SizeIn first last) = Below-same _
chance_in-right Others a b (hints.SizeIn first last) = Below-same _
chance_in-right class a b (hints.MtimeIn first last) = within-right int_le int_min int_max int_spans first last a.mtime b.mtime
chance_in-right class a b (hints.UidIn first last) = within-right nat_le min max nat_spans first last a.uid b.uid
chance_in-right class a b (hints.GidIn first last) = within-right nat_le min max nat_spans first last a.gid b.gid
chance_in-right class a b hints.Unknown = Below-same _
chance_in-right class a b hints.Not = Below-same _
chance_in-right class a b hints.And = Below-same _
chance_in-right class a b hints.Or = Below-same _

counted-left : (class : Class) (a b : Summary) → nat_lt 0 (count_of class a) ≡ true → nat_lt 0 (count_of class (join a b)) ≡ true
counted-left Dirs a b h = grind (arith, h)
counted-left Files a b h = grind (arith, h)
counted-left Links a b h = grind (arith, h)
counted-left Others a b h = grind (arith, h)

counted-right : (class : Class) (a b : Summary) → nat_lt 0 (count_of class b) ≡ true → nat_lt 0 (count_of class (join a b)) ≡ true
counted-right Dirs a b h = grind (arith, h)
counted-right Files a b h = grind (arith, h)
counted-right Links a b h = grind (arith, h)
counted-right Others a b h = grind (arith, h)

may_meet-left : (list : List Hint) (a b : Summary) (class : Class) → may_meet list a class ≡ true → may_meet list (join a b) class ≡ true
may_meet-left list a b class =
    and-grows _ _ _ _ (counted-left class a b) (chance_or-grows (chance_in class a) (chance_in class (join a b)) (chance_in-left class a b) (formula_of list)).holds

may_meet-right : (list : List Hint) (a b : Summary) (class : Class) → may_meet list b class ≡ true → may_meet list (join a b) class ≡ true
may_meet-right list a b class =
    and-grows _ _ _ _ (counted-right class a b) (chance_or-grows (chance_in class b) (chance_in class (join a b)) (chance_in-right class a b) (formula_of list)).holds

any_class-grows : (list : List Hint) (a b : Summary) → ((class : Class) → may_meet list a class ≡ true → may_meet list b class ≡ true) → (fits b ≡ true → fits a ≡ true) → no_match list b ≡ true → no_match list a ≡ true
unfolding no_match
any_class-grows list a b h f =
    and-grows _ _ _ _ f (not-grows _ _ (or-grows _ _ _ _ (or-grows _ _ _ _ (or-grows _ _ _ _ (h Dirs) (h Files)) (h Links)) (h Others)))

below-parts : (most : ℕ) (a b : Option (ℕ × ℕ)) → is_below most (span min max a b) ≡ true → (is_below most a ≡ true) × (is_below most b ≡ true)
below-parts most None b e = (refl, e)
below-parts most (Some a) None e = (e, refl)
below-parts most (Some a) (Some b) e = let k = ltb-true (max a.1 b.1) most e in (lt-ltb a.1 most (omega (arith, k)), lt-ltb b.1 most (omega (arith, k)))

int_before : (a b : ℤ) → (int_lt a b ≡ false → ⊥) → int_lt a b ≡ true
int_before a b h = elim (cases_Bool (int_lt a b)) [ inl so ↦ so | inr off ↦ absurd (h off) ]

times-parts : (a b : Option (ℤ × ℤ)) → are_times (span int_min int_max a b) ≡ true → (are_times a ≡ true) × (are_times b ≡ true)
times-parts None b e = (refl, e)
times-parts (Some a) None e = (e, refl)
times-parts (Some a) (Some b) e =
    let p = and_parts (int_le (neg_ℤ (pos (2 ^ 63))) (int_min a.0 b.0)) (int_lt (int_max a.1 b.1) (pos (2 ^ 63))) e in
    let low = int_low_back (neg_ℤ (pos (2 ^ 63))) a.0 b.0 p.0 in
    let high = p.1 in (
      both_true low.0 (int_before a.1 (pos (2 ^ 63)) (λ off. omega (arith, ints, clamps, high, off))),
      both_true low.1 (int_before b.1 (pos (2 ^ 63)) (λ off. omega (arith, ints, clamps, high, off))),
    )

fits-parts : (a b : Summary) → fits (join a b) ≡ true → (fits a ≡ true) × (fits b ≡ true)
fits-parts a b e =
    let p = and_parts (is_below (2 ^ 64) (join a b).size) _ e in
    let q = and_parts (are_times (join a b).mtime) _ p.1 in
    let r = and_parts (is_below (2 ^ 32) (join a b).uid) (is_below (2 ^ 32) (join a b).gid) q.1 in
    let size = below-parts (2 ^ 64) a.size b.size p.0 in
    let mtime = times-parts a.mtime b.mtime q.0 in
    let uid = below-parts (2 ^ 32) a.uid b.uid r.0 in
    let gid = below-parts (2 ^ 32) a.gid b.gid r.1 in
    (both_true size.0 (both_true mtime.0 (both_true uid.0 gid.0)), both_true size.1 (both_true mtime.1 (both_true uid.1 gid.1)))

-- what is ruled out of two lists joined is ruled out of each
pub no_match-parts : (list : List Hint) (a b : Summary) → no_match list (join a b) ≡ true → (no_match list a ≡ true) × (no_match list b ≡ true)
no_match-parts list a b e = (
  any_class-grows list a (join a b) (may_meet-left list a b) (λ f. (fits-parts a b f).0) e,
  any_class-grows list b (join a b) (may_meet-right list a b) (λ f. (fits-parts a b f).1) e,
)

-- ---- the rows of a sum

-- a class by the letter of a type
abbrev has_letter : Class → ℕ → Bool
has_letter Dirs n = n == 100
has_letter Files n = n == 102
has_letter Links n = n == 108
has_letter Others n = not (n == 100 || n == 102 || n == 108)

of-letter : (class : Class) (kind : Kind) → is_of class kind ≡ has_letter class (kind_letter kind)
of-letter Dirs Block = refl
of-letter Dirs Char = refl
of-letter Dirs Dir = refl
of-letter Dirs Link = refl
of-letter Dirs Fifo = refl
of-letter Dirs File = refl
of-letter Dirs Socket = refl
of-letter Files Block = refl
of-letter Files Char = refl
of-letter Files Dir = refl
of-letter Files Link = refl
of-letter Files Fifo = refl
of-letter Files File = refl
of-letter Files Socket = refl
of-letter Links Block = refl
of-letter Links Char = refl
of-letter Links Dir = refl
of-letter Links Link = refl
of-letter Links Fifo = refl
of-letter Links File = refl
of-letter Links Socket = refl
of-letter Others Block = refl
of-letter Others Char = refl
of-letter Others Dir = refl
of-letter Others Link = refl
of-letter Others Fifo = refl
of-letter Others File = refl
of-letter Others Socket = refl

letter-same : (k kind : Kind) → kind_letter k == kind_letter kind ≡ true → (class : Class) → is_of class k ≡ is_of class kind
letter-same k kind e class = of-letter class k ∙ ap (has_letter class) (eqb-true (kind_letter k) (kind_letter kind) e) ∙ sym (of-letter class kind)

-- directories, files and links have one letter each
one-letter : (n : ℕ) (k kind : Kind) → kind_letter k == n ≡ true → kind_letter kind == n ≡ true → kind_letter k == kind_letter kind ≡ true
one-letter n k kind e h = eq-eqb (kind_letter k) (kind_letter kind) (eqb-true (kind_letter k) n e ∙ sym (eqb-true (kind_letter kind) n h))

kind-single : (class : Class) (k kind : Kind) → is_of class kind ≡ true → Below (certain (kind_letter k == kind_letter kind)) (chance_of_kind class k)
kind-single Dirs k kind is = record {
  holds = λ e. letter-same k kind e Dirs ∙ is;
  fails = not-grows _ _ (λ e. one-letter 100 k kind (sym (of-letter Dirs k) ∙ e) (sym (of-letter Dirs kind) ∙ is));
}
kind-single Files k kind is = record {
  holds = λ e. letter-same k kind e Files ∙ is;
  fails = not-grows _ _ (λ e. one-letter 102 k kind (sym (of-letter Files k) ∙ e) (sym (of-letter Files kind) ∙ is));
}
kind-single Links k kind is = record {
  holds = λ e. letter-same k kind e Links ∙ is;
  fails = not-grows _ _ (λ e. one-letter 108 k kind (sym (of-letter Links k) ∙ e) (sym (of-letter Links kind) ∙ is));
}
kind-single Others k kind is = record { holds = λ e. letter-same k kind e Others ∙ is; fails = λ e. refl }

nat_through : (a b c : ℕ) → nat_le a b ≡ true → nat_le b c ≡ true → nat_le a c ≡ true
nat_through a b c e h = let k = leb-true a b e in let l = leb-true b c h in le-leb a c (omega (arith, k, l))

int_through : (a b c : ℤ) → int_le a b ≡ true → int_le b c ≡ true → int_le a c ≡ true
int_through a b c e h = int_true a c (λ no. omega (arith, ints, e, h, no))

size-single : (class : Class) (first last : ℕ) (meta : Meta) → is_of class meta.kind ≡ true → Below (certain (is_in first last meta.size)) (chance_of_size class first last (meta_total meta))
size-single Dirs first last meta is = Below-open _
size-single Files first last meta is = rw is (within-one nat_le min max nat_spans first last meta.size nat_through)
size-single Links first last meta is = Below-open _
size-single Others first last meta is = Below-open _

-- what is known of a record may be of its class in its sum
chance_in-single : (class : Class) (meta : Meta) → is_of class meta.kind ≡ true → (hint : Hint) → Below (chance_at meta hint) (chance_in class (meta_total meta) hint)
chance_in-single class meta is (hints.Kind kind) = kind-single class kind meta.kind is
chance_in-single class meta is (hints.SizeIn first last) = size-single class first last meta is
chance_in-single class meta is (hints.MtimeIn first last) = within-one int_le int_min int_max int_spans first last meta.mtime int_through
chance_in-single class meta is (hints.UidIn first last) = within-one nat_le min max nat_spans first last meta.uid nat_through
chance_in-single class meta is (hints.GidIn first last) = within-one nat_le min max nat_spans first last meta.gid nat_through
chance_in-single class meta is hints.Unknown = Below-open _
chance_in-single class meta is hints.Not = Below-open _
chance_in-single class meta is hints.And = Below-open _
chance_in-single class meta is hints.Or = Below-open _

chance_told-single : (class : Class) (meta : Meta) → is_of class meta.kind ≡ true → (hint : Hint) → Below (chance_told meta hint) (chance_in class (meta_total meta) hint)
chance_told-single Dirs meta is (hints.SizeIn first last) = Below-open _
chance_told-single Files meta is (hints.SizeIn first last) = rw is (within-one nat_le min max nat_spans first last meta.size nat_through)
chance_told-single Links meta is (hints.SizeIn first last) = Below-open _
chance_told-single Others meta is (hints.SizeIn first last) = Below-open _
chance_told-single class meta is (hints.Kind kind) = chance_in-single class meta is (hints.Kind kind)
chance_told-single class meta is (hints.MtimeIn first last) = chance_in-single class meta is (hints.MtimeIn first last)
chance_told-single class meta is (hints.UidIn first last) = chance_in-single class meta is (hints.UidIn first last)
chance_told-single class meta is (hints.GidIn first last) = chance_in-single class meta is (hints.GidIn first last)
chance_told-single class meta is hints.Unknown = Below-open _
chance_told-single class meta is hints.Not = Below-open _
chance_told-single class meta is hints.And = Below-open _
chance_told-single class meta is hints.Or = Below-open _

-- the numbers of a record whose sum is in range are in range
size-fits : (file : Bool) (size : ℕ) → is_below (2 ^ 64) (if file then Some (size, size) else None) ≡ true → not file || nat_lt size (2 ^ 64) ≡ true
size-fits true size e = e
size-fits false size e = refl

fits-single : (meta : Meta) → fits (meta_total meta) ≡ true → fits_sums meta ≡ true
fits-single meta e =
    let p = and_parts (is_below (2 ^ 64) (meta_total meta).size) _ e in
    both_true (size-fits (is_file meta.kind) meta.size p.0) p.1

counted-single : (class : Class) (meta : Meta) → is_of class meta.kind ≡ true → nat_lt 0 (count_of class (meta_total meta)) ≡ true
counted-single Dirs meta is = rw is refl
counted-single Files meta is = rw is refl
counted-single Links meta is = rw is refl
counted-single Others meta is = rw is refl

-- a sum counts a row of the class, and leaves room for what is known of it
record Covers (class : Class) (meta : Meta) (sum : Summary) : Type 0 where
  counted : nat_lt 0 (count_of class sum) ≡ true
  chances : (hint : Hint) → Below (chance_told meta hint) (chance_in class sum hint)

total-cons : (row : Row) (rows : List Row) → total (row ∷ rows) ≡ join (meta_total row.rec.meta) (total rows)
unfolding total
total-cons row rows = total-append (row ∷ []) rows ∙ ap (λ (s : Summary). join s (total rows)) (total_of-one row.rec.meta)

abbrev IsCovered : Summary → Row → Type 0
IsCovered sum row = (class : Class) → is_of class row.rec.meta.kind ≡ true → Covers class row.rec.meta sum

all-fit : (rows : List Row) → fits (total rows) ≡ true → All (λ row. fits_sums row.rec.meta ≡ true) rows
all-fit [] e = All-nil _
all-fit (row ∷ rows) e =
    let p = fits-parts (meta_total row.rec.meta) (total rows) (ap fits (sym (total-cons row rows)) ∙ e) in
    All-cons (λ row. fits_sums row.rec.meta ≡ true) row rows (fits-single row.rec.meta p.0) (all-fit rows p.1)

covered-left : (a b : Summary) (class : Class) (meta : Meta) → Covers class meta a → Covers class meta (join a b)
covered-left a b class meta c = record { counted = counted-left class a b c.counted; chances = λ hint. Below-trans _ _ _ (c.chances hint) (chance_in-left class a b hint) }

covered-right : (a b : Summary) (class : Class) (meta : Meta) → Covers class meta b → Covers class meta (join a b)
covered-right a b class meta c = record { counted = counted-right class a b c.counted; chances = λ hint. Below-trans _ _ _ (c.chances hint) (chance_in-right class a b hint) }

all-covered : (rows : List Row) → All (IsCovered (total rows)) rows
all-covered [] = All-nil _
all-covered (row ∷ rows) =
    let sum = meta_total row.rec.meta in
    subst (λ (s : Summary). All (IsCovered s) (row ∷ rows)) (sym (total-cons row rows))
    (All-cons (IsCovered (join sum (total rows))) row rows
    (λ class is. covered-left sum (total rows) class row.rec.meta (record { counted = counted-single class row.rec.meta is; chances = chance_told-single class row.rec.meta is }))
    (All-weaker (IsCovered (total rows)) (IsCovered (join sum (total rows))) (λ other c class is. covered-right sum (total rows) class other.rec.meta (c class is)) rows (all-covered rows)))

abbrev class_of : Kind → Class
class_of Dir = Dirs
class_of File = Files
class_of Link = Links
class_of kind = Others

class_of-is : (kind : Kind) → is_of (class_of kind) kind ≡ true
class_of-is Block = refl
class_of-is Char = refl
class_of-is Dir = refl
class_of-is Link = refl
class_of-is Fifo = refl
class_of-is File = refl
class_of-is Socket = refl

-- a class with a match is not ruled out
ruled_out : (list : List Hint) (sum : Summary) (class : Class) → no_match list sum ≡ true → may_meet list sum class ≡ false
unfolding no_match
ruled_out list sum class e =
    by class (may_meet list sum Dirs) (may_meet list sum Files) (may_meet list sum Links) (may_meet list sum Others) refl refl refl refl (and_parts (fits sum) _ e).1 where
      by : (class : Class) (d f l o : Bool) → may_meet list sum Dirs ≡ d → may_meet list sum Files ≡ f → may_meet list sum Links ≡ l → may_meet list sum Others ≡ o
          → not (d || f || l || o) ≡ true → may_meet list sum class ≡ false
      by Dirs false f l o di fi li oi e = di
      by Dirs true f l o di fi li oi e = absurd (false≢true e)
      by Files d false l o di fi li oi e = fi
      by Files true true l o di fi li oi e = absurd (false≢true e)
      by Files false true l o di fi li oi e = absurd (false≢true e)
      by Links d f false o di fi li oi e = li
      by Links true f true o di fi li oi e = absurd (false≢true e)
      by Links false true true o di fi li oi e = absurd (false≢true e)
      by Links false false true o di fi li oi e = absurd (false≢true e)
      by Others d f l false di fi li oi e = oi
      by Others true f l true di fi li oi e = absurd (false≢true e)
      by Others false true l true di fi li oi e = absurd (false≢true e)
      by Others false false true true di fi li oi e = absurd (false≢true e)
      by Others false false false true di fi li oi e = absurd (false≢true e)

-- what a hint may be whatever the sum, it may be with each
chance_alone-below : (class : Class) (sum : Summary) (hint : Hint) → Below (chance_alone class hint) (chance_in class sum hint)
chance_alone-below class sum (hints.Kind kind) = Below-same _
chance_alone-below Dirs sum (hints.SizeIn first last) = Below-same _
chance_alone-below Files sum (hints.SizeIn first last) = Below-closed _
chance_alone-below Links sum (hints.SizeIn first last) = Below-same _
chance_alone-below Others sum (hints.SizeIn first last) = Below-same _
chance_alone-below class sum (hints.MtimeIn first last) = Below-closed _
chance_alone-below class sum (hints.UidIn first last) = Below-closed _
chance_alone-below class sum (hints.GidIn first last) = Below-closed _
chance_alone-below class sum hints.Unknown = Below-same _
chance_alone-below class sum hints.Not = Below-same _
chance_alone-below class sum hints.And = Below-same _
chance_alone-below class sum hints.Or = Below-same _

-- no sum rules out rows that it counts and that may meet the hints whatever their sum
pub never_ruled_out : (list : List Hint) (class : Class) → always_may_meet list class ≡ true → (sum : Summary) → nat_lt 0 (count_of class sum) ≡ true → no_match list sum ≡ false
never_ruled_out list class always sum counted =
    let may = (chance_or-grows (chance_alone class) (chance_in class sum) (chance_alone-below class sum) (formula_of list)).holds always in
    false_from_ne_true (no_match list sum) (λ out. false≢true (sym (ruled_out list sum class out) ∙ both_true counted may))

in_range_fits : (list : List Hint) (sum : Summary) → no_match list sum ≡ true → fits sum ≡ true
unfolding no_match
in_range_fits list sum e = (and_parts (fits sum) _ e).0

second_holds : (p q : Bool) → p ≡ true → not p || q ≡ true → q ≡ true
second_holds true q is e = e
second_holds false q is e = absurd (false≢true is)

may_hold-ruled : (list : List Hint) (sum : Summary) (row : Row) → no_match list sum ≡ true → fits_sums row.rec.meta ≡ true → IsCovered sum row → may_hold list row ≡ true → ⊥
unfolding may_hold
may_hold-ruled list sum row e inside covered may =
    let class = class_of row.rec.meta.kind in
    let c = covered class (class_of-is row.rec.meta.kind) in
    let room = (chance_or-grows (chance_told row.rec.meta) (chance_in class sum) c.chances (formula_of list)).holds (second_holds (fits_sums row.rec.meta) _ inside may) in
    false≢true (sym (ruled_out list sum class e) ∙ both_true c.counted room)

none-at : (p within : Bool) → (p ≡ true → ⊥) → p && within ≡ false
none-at true within h = absurd (h refl)
none-at false within h = refl

both-all : (P Q : Row → Type 0) (rows : List Row) → All P rows → All Q rows → All (λ row. P row × Q row) rows
both-all P Q [] ps qs = All-nil _
both-all P Q (row ∷ rows) ps qs =
    All-cons (λ row. P row × Q row) row rows (All-head P row rows ps, All-head Q row rows qs) (both-all P Q rows (All-tail P row rows ps) (All-tail Q row rows qs))

-- where a sum is ruled out, none of its rows meets the question
pub no_match-sound : (pruning : Pruning) (sum : Summary) → no_match pruning.hints sum ≡ true → (rows : List Row) → total rows ≡ sum → NoneMeets (may_meet_at pruning) rows
no_match-sound pruning sum e rows is =
    let out : no_match pruning.hints (total rows) ≡ true = ap (no_match pruning.hints) is ∙ e in
    let known = both-all (λ row. fits_sums row.rec.meta ≡ true) (IsCovered (total rows)) rows (all-fit rows (in_range_fits pruning.hints (total rows) out)) (all-covered rows) in
    All-weaker (λ row. (fits_sums row.rec.meta ≡ true) × IsCovered (total rows) row) (λ row. (depth : ℕ) → may_meet_at pruning row depth ≡ false)
    (λ row k depth. none-at (may_hold pruning.hints row) (is_within pruning.deepest depth) (may_hold-ruled pruning.hints (total rows) row out k.0 k.1))
    rows known

-- a row that meets it lies no deeper than is told
pub met-within : (pruning : Pruning) (most : ℕ) → pruning.deepest ≡ Some most → (row : Row) (depth : ℕ) → may_meet_at pruning row depth ≡ true → depth ≤ most
met-within pruning most is row depth met = within_most pruning.deepest most is depth (second_true (may_hold pruning.hints row) met) where
  second_true : (p : Bool) {q : Bool} → p && q ≡ true → q ≡ true
  second_true true e = e
  second_true false e = absurd (false≢true e)
