-- Laws of sums: two lists joined, any order and grouping, how many rows are counted, and the bound of the bytes.
use Rattle.std.proofs.Common.{◌≡◌, ℕ, suc, ◌+◌, ◌*◌, ◌^◌, ◌<◌, ◌≤◌, Bool, true, false, cond, List, [], ◌∷◌, ◌++◌, map, refl, sym, subst, ◌∙◌, ap, arith, zero-add, add_comm, add_assoc, min, max}
use Rattle.std.specs.Prelude.{Option, Some, None, All, length, filter, count_by, sum, ℤ}
use Rattle.std.specs.List.Sorted.{IsPermutation}
use Rattle.std.specs.Int.{int_min, int_max}
use Rattle.std.proofs.lemmas.Int.{ints, clamps}
use Rattle.std.proofs.lemmas.List.Sums.{sum_by-append}
use Rattle.std.proofs.lemmas.List.Sorted.{IsPermutation-map, sum_by-IsPermutation}
use Rattle.std.proofs.lemmas.List.{map-append, length-map}
use Rattle.std.proofs.lemmas.List.Elements.{filter-append, All-head, All-tail}
use Rattle.gufi_base.specs.declared.record.Meta.{Meta}
use Rattle.gufi_base.specs.declared.record.Row.{Row}
use Rattle.gufi_base.specs.declared.record.Kind.{Kind}
use Rattle.gufi_base.specs.declared.record.Kind.TheVariants.{Block, Char, Dir, Link, Fifo, File, Socket}
use Rattle.gufi_base.specs.Kinds.{is_dir, is_file, is_link}
use Rattle.gufi_base.proofs.Permutations.{IsPermutation-respected, IsPermutation-filter}
use Rattle.gufi_sums.specs.declared.summary.Summary.{Summary}
use Rattle.gufi_sums.specs.Total.{span, range_of, total, total_of, empty, meta_total, join, add, file_sizes, is_other, rows_in, IsBounded, IsTotal}

-- the parts join without regard to grouping
pub span_assoc : {A : Type 0} (least greatest : A → A → A) → ((x y z : A) → least (least x y) z ≡ least x (least y z)) → ((x y z : A) → greatest (greatest x y) z ≡ greatest x (greatest y z))
    → (a b c : Option (A × A)) → span least greatest (span least greatest a b) c ≡ span least greatest a (span least greatest b c)
span_assoc least greatest l g None b c = refl
span_assoc least greatest l g (Some a) None c = refl
span_assoc least greatest l g (Some a) (Some b) None = refl
span_assoc least greatest l g (Some a) (Some b) (Some c) = λ i. Some (l a.0 b.0 c.0 i, g a.1 b.1 c.1 i)

pub range_of-append : {A : Type 0} (least greatest : A → A → A) → ((x y z : A) → least (least x y) z ≡ least x (least y z)) → ((x y z : A) → greatest (greatest x y) z ≡ greatest x (greatest y z))
    → (xs ys : List A) → range_of least greatest (xs ++ ys) ≡ span least greatest (range_of least greatest xs) (range_of least greatest ys)
range_of-append least greatest l g [] ys = refl
range_of-append least greatest l g (x ∷ xs) ys =
    ap (span least greatest (Some (x, x))) (range_of-append least greatest l g xs ys)
    ∙ sym (span_assoc least greatest l g (Some (x, x)) (range_of least greatest xs) (range_of least greatest ys))

pub nat_min_assoc : (x y z : ℕ) → min (min x y) z ≡ min x (min y z)
nat_min_assoc x y z = omega arith

pub nat_max_assoc : (x y z : ℕ) → max (max x y) z ≡ max x (max y z)
nat_max_assoc x y z = omega arith

pub int_min_assoc : (x y z : ℤ) → int_min (int_min x y) z ≡ int_min x (int_min y z)
int_min_assoc x y z = omega (arith, ints, clamps)

pub int_max_assoc : (x y z : ℤ) → int_max (int_max x y) z ≡ int_max x (int_max y z)
int_max_assoc x y z = omega (arith, ints, clamps)

sizes-append : (xs ys : List Meta) → file_sizes (xs ++ ys) ≡ file_sizes xs ++ file_sizes ys
sizes-append xs ys =
    ap (map (λ meta. meta.size)) (filter-append (λ (meta : Meta). is_file meta.kind) xs ys)
    ∙ map-append (λ (meta : Meta). meta.size) (filter (λ meta. is_file meta.kind) xs) (filter (λ meta. is_file meta.kind) ys)

kinds-append : (p : Kind → Bool) (xs ys : List Meta) → count_by (λ meta. p meta.kind) (xs ++ ys) ≡ count_by (λ meta. p meta.kind) xs + count_by (λ meta. p meta.kind) ys
kinds-append p xs ys = sum_by-append (λ (meta : Meta). cond (p meta.kind) 1 0) xs ys

pub total_of-append : (xs ys : List Meta) → total_of (xs ++ ys) ≡ join (total_of xs) (total_of ys)
total_of-append xs ys = λ i. record {
  dirs = kinds-append is_dir xs ys i;
  files = kinds-append is_file xs ys i;
  links = kinds-append is_link xs ys i;
  others = kinds-append is_other xs ys i;
  bytes = (ap sum (sizes-append xs ys) ∙ sum_by-append (λ n. n) (file_sizes xs) (file_sizes ys)) i;
  size = (ap (range_of min max) (sizes-append xs ys) ∙ range_of-append min max nat_min_assoc nat_max_assoc (file_sizes xs) (file_sizes ys)) i;
  mtime = (ap (range_of int_min int_max) (map-append (λ (meta : Meta). meta.mtime) xs ys) ∙ range_of-append int_min int_max int_min_assoc int_max_assoc (map (λ meta. meta.mtime) xs) (map (λ meta. meta.mtime) ys)) i;
  uid = (ap (range_of min max) (map-append (λ (meta : Meta). meta.uid) xs ys) ∙ range_of-append min max nat_min_assoc nat_max_assoc (map (λ meta. meta.uid) xs) (map (λ meta. meta.uid) ys)) i;
  gid = (ap (range_of min max) (map-append (λ (meta : Meta). meta.gid) xs ys) ∙ range_of-append min max nat_min_assoc nat_max_assoc (map (λ meta. meta.gid) xs) (map (λ meta. meta.gid) ys)) i;
}

pub total-append : (xs ys : List Row) → total (xs ++ ys) ≡ join (total xs) (total ys)
unfolding total
total-append xs ys =
    ap total_of (map-append (λ (row : Row). row.rec.meta) xs ys) ∙ total_of-append (map (λ row. row.rec.meta) xs) (map (λ row. row.rec.meta) ys)

-- the sums of no record and of one
pub total_of-nil : total_of [] ≡ empty
total_of-nil = refl

pub total_of-one : (meta : Meta) → total_of (meta ∷ []) ≡ meta_total meta
total_of-one meta = λ i. record {
  dirs = one (is_dir meta.kind) i;
  files = one (is_file meta.kind) i;
  links = one (is_link meta.kind) i;
  others = one (is_other meta.kind) i;
  bytes = one_bytes (is_file meta.kind) i;
  size = one_size (is_file meta.kind) i;
  mtime = Some (meta.mtime, meta.mtime);
  uid = Some (meta.uid, meta.uid);
  gid = Some (meta.gid, meta.gid);
}
  where
    one : (b : Bool) → 0 + cond b 1 0 ≡ cond b 1 0
    one true = refl
    one false = refl

    one_bytes : (b : Bool) → sum (map (λ (meta : Meta). meta.size) (cond b (meta ∷ []) [])) ≡ cond b meta.size 0
    one_bytes true = zero-add meta.size
    one_bytes false = refl

    one_size : (b : Bool) → range_of min max (map (λ (meta : Meta). meta.size) (cond b (meta ∷ []) [])) ≡ cond b (Some (meta.size, meta.size)) None
    one_size true = refl
    one_size false = refl

-- one record more is added behind
pub total_of-add : (metas : List Meta) (meta : Meta) → total_of (metas ++ meta ∷ []) ≡ add (total_of metas) meta
total_of-add metas meta = total_of-append metas (meta ∷ []) ∙ ap (join (total_of metas)) (total_of-one meta)

-- one row more is added behind
pub total-add : (rows : List Row) (row : Row) → total (rows ++ row ∷ []) ≡ add (total rows) row.rec.meta
unfolding total
total-add rows row = ap total_of (map-append (λ (row : Row). row.rec.meta) rows (row ∷ [])) ∙ total_of-add (map (λ row. row.rec.meta) rows) row.rec.meta

-- sums join without regard to order and grouping
pub span_comm : {A : Type 0} (least greatest : A → A → A) → ((x y : A) → least x y ≡ least y x) → ((x y : A) → greatest x y ≡ greatest y x)
    → (a b : Option (A × A)) → span least greatest a b ≡ span least greatest b a
span_comm least greatest l g None None = refl
span_comm least greatest l g None (Some b) = refl
span_comm least greatest l g (Some a) None = refl
span_comm least greatest l g (Some a) (Some b) = λ i. Some (l a.0 b.0 i, g a.1 b.1 i)

pub nat_min_comm : (x y : ℕ) → min x y ≡ min y x
nat_min_comm x y = omega arith

pub nat_max_comm : (x y : ℕ) → max x y ≡ max y x
nat_max_comm x y = omega arith

pub int_min_comm : (x y : ℤ) → int_min x y ≡ int_min y x
int_min_comm x y = omega (arith, ints, clamps)

pub int_max_comm : (x y : ℤ) → int_max x y ≡ int_max y x
int_max_comm x y = omega (arith, ints, clamps)

pub join_comm : (a b : Summary) → join a b ≡ join b a
join_comm a b = λ i. record {
  dirs = add_comm a.dirs b.dirs i;
  files = add_comm a.files b.files i;
  links = add_comm a.links b.links i;
  others = add_comm a.others b.others i;
  bytes = add_comm a.bytes b.bytes i;
  size = span_comm min max nat_min_comm nat_max_comm a.size b.size i;
  mtime = span_comm int_min int_max int_min_comm int_max_comm a.mtime b.mtime i;
  uid = span_comm min max nat_min_comm nat_max_comm a.uid b.uid i;
  gid = span_comm min max nat_min_comm nat_max_comm a.gid b.gid i;
}

pub join_assoc : (a b c : Summary) → join (join a b) c ≡ join a (join b c)
join_assoc a b c = λ i. record {
  dirs = add_assoc a.dirs b.dirs c.dirs i;
  files = add_assoc a.files b.files c.files i;
  links = add_assoc a.links b.links c.links i;
  others = add_assoc a.others b.others c.others i;
  bytes = add_assoc a.bytes b.bytes c.bytes i;
  size = span_assoc min max nat_min_assoc nat_max_assoc a.size b.size c.size i;
  mtime = span_assoc int_min int_max int_min_assoc int_max_assoc a.mtime b.mtime c.mtime i;
  uid = span_assoc min max nat_min_assoc nat_max_assoc a.uid b.uid c.uid i;
  gid = span_assoc min max nat_min_assoc nat_max_assoc a.gid b.gid c.gid i;
}

-- the order of the rows does not matter
range_of-IsPermutation : {A : Type 0} (least greatest : A → A → A) → ((x y : A) → least x y ≡ least y x) → ((x y : A) → greatest x y ≡ greatest y x)
    → ((x y z : A) → least (least x y) z ≡ least x (least y z)) → ((x y z : A) → greatest (greatest x y) z ≡ greatest x (greatest y z))
    → (xs ys : List A) → IsPermutation xs ys → range_of least greatest xs ≡ range_of least greatest ys
range_of-IsPermutation least greatest lc gc l g =
    IsPermutation-respected ◌≡◌ (λ p. refl) (λ p q r. λ e f. e ∙ f) (range_of least greatest) (λ x us vs e. ap (span least greatest (Some (x, x))) e)
    (λ x y us. let u = range_of least greatest us in
    sym (span_assoc least greatest l g (Some (x, x)) (Some (y, y)) u) ∙ ap (λ p. span least greatest p u) (span_comm least greatest lc gc (Some (x, x)) (Some (y, y)))
    ∙ span_assoc least greatest l g (Some (y, y)) (Some (x, x)) u)

nats-IsPermutation : (xs ys : List ℕ) → IsPermutation xs ys → range_of min max xs ≡ range_of min max ys
nats-IsPermutation = range_of-IsPermutation min max nat_min_comm nat_max_comm nat_min_assoc nat_max_assoc

ints-IsPermutation : (xs ys : List ℤ) → IsPermutation xs ys → range_of int_min int_max xs ≡ range_of int_min int_max ys
ints-IsPermutation = range_of-IsPermutation int_min int_max int_min_comm int_max_comm int_min_assoc int_max_assoc

pub total_of-IsPermutation : (xs ys : List Meta) → IsPermutation xs ys → total_of xs ≡ total_of ys
total_of-IsPermutation xs ys h =
    let kinds : (p : Kind → Bool) → count_by (λ meta. p meta.kind) xs ≡ count_by (λ meta. p meta.kind) ys =
    λ p. sym (sum_by-IsPermutation (λ (meta : Meta). cond (p meta.kind) 1 0) xs ys h) in
    let sizes = IsPermutation-map (λ (meta : Meta). meta.size) _ _ (IsPermutation-filter (λ (meta : Meta). is_file meta.kind) xs ys h) in
    λ i. record {
      dirs = kinds is_dir i;
      files = kinds is_file i;
      links = kinds is_link i;
      others = kinds is_other i;
      bytes = sym (sum_by-IsPermutation (λ n. n) (file_sizes xs) (file_sizes ys) sizes) i;
      size = nats-IsPermutation (file_sizes xs) (file_sizes ys) sizes i;
      mtime = ints-IsPermutation _ _ (IsPermutation-map (λ (meta : Meta). meta.mtime) xs ys h) i;
      uid = nats-IsPermutation _ _ (IsPermutation-map (λ (meta : Meta). meta.uid) xs ys h) i;
      gid = nats-IsPermutation _ _ (IsPermutation-map (λ (meta : Meta). meta.gid) xs ys h) i;
    }

pub total-IsPermutation : (xs ys : List Row) → IsPermutation xs ys → total xs ≡ total ys
unfolding total
total-IsPermutation xs ys h = total_of-IsPermutation (map (λ row. row.rec.meta) xs) (map (λ row. row.rec.meta) ys) (IsPermutation-map (λ (row : Row). row.rec.meta) xs ys h)

-- one record more is added in front
total_of-front : (meta : Meta) (metas : List Meta) → total_of (meta ∷ metas) ≡ join (meta_total meta) (total_of metas)
total_of-front meta metas = total_of-append (meta ∷ []) metas ∙ ap (λ s. join s (total_of metas)) (total_of-one meta)

-- a sum counts each row once
total_of-counts : (metas : List Meta) → rows_in (total_of metas) ≡ length metas
total_of-counts [] = refl
total_of-counts (meta ∷ metas) = ap rows_in (total_of-front meta metas) ∙ by_kind meta.kind (total_of-counts metas) where
  by_kind : (kind : Kind) → rows_in (total_of metas) ≡ length metas
      → (cond (is_dir kind) 1 0 + (total_of metas).dirs) + (cond (is_file kind) 1 0 + (total_of metas).files) + (cond (is_link kind) 1 0 + (total_of metas).links)
      + (cond (is_other kind) 1 0 + (total_of metas).others) ≡ suc (length metas)
  by_kind Block h = omega arith
  by_kind Char h = omega arith
  by_kind Dir h = omega arith
  by_kind Link h = omega arith
  by_kind Fifo h = omega arith
  by_kind File h = omega arith
  by_kind Socket h = omega arith

pub total-counts : (rows : List Row) → rows_in (total rows) ≡ length rows
unfolding total
total-counts rows = total_of-counts (map (λ row. row.rec.meta) rows) ∙ length-map rows (λ (row : Row). row.rec.meta)

-- where each size is a number of 64 bits, the sum keeps its bound
pub total_of-bounded : (metas : List Meta) → All (λ meta. meta.size < 2 ^ 64) metas → IsBounded (total_of metas)
total_of-bounded [] h = omega arith
total_of-bounded (meta ∷ metas) h =
    subst IsBounded (sym (total_of-front meta metas))
    (by_case (is_file meta.kind) (total_of-bounded metas (All-tail (λ meta. meta.size < 2 ^ 64) meta metas h)) (All-head (λ meta. meta.size < 2 ^ 64) meta metas h))
  where
    by_case : (b : Bool) → IsBounded (total_of metas) → meta.size < 2 ^ 64
        → cond b meta.size 0 + (total_of metas).bytes ≤ 18446744073709551615 * (cond b 1 0 + (total_of metas).files)
    by_case true rest fits = omega arith
    by_case false rest fits = omega arith

-- what a sum stands for: as many rows as it counts, in any order
pub IsTotal-counted : (sum : Summary) (rows : List Row) → IsTotal sum rows → length rows ≡ rows_in sum
IsTotal-counted sum rows h = sym (ap rows_in h.is ∙ total-counts rows)

pub IsTotal-reordered : (sum : Summary) (rows other : List Row) → IsPermutation rows other → IsTotal sum rows → IsTotal sum other
IsTotal-reordered sum rows other moved h = record { is = h.is ∙ total-IsPermutation rows other moved; bounded = h.bounded }
