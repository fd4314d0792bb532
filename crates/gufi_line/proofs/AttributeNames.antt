-- Names of extended attributes: what is read of a field are names, and names are read to themselves.
use Rattle.std.proofs.Common.{◌≡◌, ℕ, ◌-◌, ◌≤◌, Bool, true, false, not, ◌||◌, cond, List, [], ◌∷◌, ◌++◌, length, drop, zero, suc, refl, ap, ◌∙◌, subst, arith, append_assoc, length-append}
use Rattle.std.specs.Prelude.{Ok, nat_lt, nat_le, ◌&&◌, ◌==◌}
use Rattle.std.specs.List.{list_all, list_any, join_with_byte}
use Rattle.std.proofs.lemmas.Bool.{and_parts, and_from, or_parts, or_from, or_right, le-ltb, le-leb, leb-true, ltb-false, false≢true}
use Rattle.std.proofs.lemmas.List.Splits.{join_with_byte-slice_split}
use Rattle.gufi_base.specs.Basics.{is_empty, split, ◌>>◌, refuse, part_at}
use Rattle.gufi_base.specs.Limits.{max_xattr, max_xattrs}
use Rattle.gufi_base.specs.Names.{is_path_byte}
use Rattle.gufi_base.specs.Rows.{are_bytes}
use Rattle.gufi_line.specs.TraceRows.{xattrs_fields}
use Rattle.gufi_base.specs.Xattrs.{mark, is_xattr, are_xattrs}
use Rattle.gufi_base.proofs.Parts.{has_no}
use Rattle.gufi_line.specs.declared.fault.TraceKind.TheVariants.{BadXattr}
use Rattle.gufi_line.specs.AttributeField.{has_mark, is_long, are_bad, filled, joined, added, xattrs_of}
use Rattle.gufi_line.proofs.FieldsBack.{split_join, all_join}
use Rattle.gufi_line.proofs.MetaRead.{passed}
use Rattle.gufi_line.proofs.PathsBack.{no_zero}
use Rattle.gufi_line.proofs.PathsRead.{size, split_size, filter_size, split_all, split_apart, filter_all, path_bytes}

-- ---- parts that are put one behind another

abbrev pub all_added : List ℕ → List (List ℕ) → List ℕ
all_added out [] = out
all_added out (part ∷ parts) = all_added (added out part) parts

join_more : (s : ℕ) (a b : List ℕ) (parts : List (List ℕ)) → join_with_byte s ((a ++ s ∷ b) ∷ parts) ≡ join_with_byte s (a ∷ b ∷ parts)
join_more s a b [] = refl
join_more s a b (part ∷ parts) = append_assoc a (s ∷ b) (s ∷ join_with_byte s (part ∷ parts))

added_behind : (x : ℕ) (xs : List ℕ) (parts : List (List ℕ)) → all_added (x ∷ xs) parts ≡ join_with_byte 44 ((x ∷ xs) ∷ filled parts)
added_behind x xs [] = refl
added_behind x xs ([] ∷ parts) = added_behind x xs parts
added_behind x xs ((b ∷ part) ∷ parts) = added_behind x (xs ++ 44 ∷ b ∷ part) parts ∙ join_more 44 (x ∷ xs) (b ∷ part) (filled parts)

pub added_all : (parts : List (List ℕ)) → all_added [] parts ≡ join_with_byte 44 (filled parts)
added_all [] = refl
added_all ([] ∷ parts) = added_all parts
added_all ((b ∷ part) ∷ parts) = added_behind b part parts

-- ---- names are read to themselves

filled_same : (parts : List (List ℕ)) → list_all is_xattr parts ≡ true → filled parts ≡ parts
filled_same [] h = refl
filled_same ([] ∷ parts) h = absurd (false≢true h)
filled_same ((b ∷ part) ∷ parts) h = ap (λ (ps : List (List ℕ)). (b ∷ part) ∷ ps) (filled_same parts (and_parts (is_xattr (b ∷ part)) (list_all is_xattr parts) h).1)

short_parts : (parts : List (List ℕ)) → list_all is_xattr parts ≡ true → list_any is_long parts ≡ false
short_parts [] h = refl
short_parts (part ∷ parts) h =
    let both = and_parts (is_xattr part) (list_all is_xattr parts) h in
    or_from _ _ (le-ltb max_xattr (length part) (leb-true _ _ (and_parts (not (is_empty part)) _ both.0).1)) (short_parts parts both.1)

-- nothing, or parts that are names
abbrev AreNames : List ℕ → Type 0
AreNames names = (is_empty names || list_all is_xattr (split 44 names)) ≡ true

joined_same : (names : List ℕ) → AreNames names → joined names ≡ names
joined_same [] h = refl
joined_same (b ∷ names) h = ap (join_with_byte 44) (filled_same (split 44 (b ∷ names)) h) ∙ join_with_byte-slice_split 44 (b ∷ names)

none_long : (names : List ℕ) → AreNames names → list_any is_long (split 44 names) ≡ false
none_long [] h = refl
none_long (b ∷ names) h = short_parts (split 44 (b ∷ names)) h

names_same : (names : List ℕ) → are_xattrs names ≡ true → (refuse (are_bad names) BadXattr >> Ok (joined names)) ≡ Ok names
names_same names h =
    let outer = and_parts (nat_le (length names) max_xattrs && list_all is_path_byte names) (is_empty names || list_all is_xattr (split 44 names)) h in
    let inner = and_parts (nat_le (length names) max_xattrs) (list_all is_path_byte names) outer.0 in
    let bad : are_bad names ≡ false = or_from _ _ (or_from _ _ (no_zero names inner.1) (le-ltb max_xattrs (length names) (leb-true _ _ inner.0))) (none_long names outer.1) in
    rw (bad, joined_same names outer.1) refl

-- a field that is seen to be the mark and names
pub names_seen : (field names : List ℕ) → has_mark field ≡ true → names ≡ drop (length mark) field → are_xattrs names ≡ true → xattrs_of field ≡ Ok names
unfolding xattrs_of
names_seen field names marked e h = rw (marked, ← e) (names_same names h)

pub unmarked : (field : List ℕ) → has_mark field ≡ false → xattrs_of field ≡ Ok []
unfolding xattrs_of
unmarked field e = rw e refl

pub xattrs_back : (names : List ℕ) → are_xattrs names ≡ true → xattrs_of (part_at (xattrs_fields names) 1) ≡ Ok names
xattrs_back [] h = unmarked [] refl
xattrs_back (b ∷ names) h = names_seen (mark ++ b ∷ names) (b ∷ names) refl refl h

-- ---- what is read are names

join_size : (s : ℕ) (parts : List (List ℕ)) → length (join_with_byte s parts) ≤ size parts - 1
join_size s [] = omega arith
join_size s (part ∷ []) = omega arith
join_size s (part ∷ next ∷ parts) = let rest = join_size s (next ∷ parts) in omega (arith, length-append part (s ∷ join_with_byte s (next ∷ parts)))

filled_names : (parts : List (List ℕ)) → list_any is_long parts ≡ false → list_all is_xattr (filled parts) ≡ true
filled_names [] h = refl
filled_names ([] ∷ parts) h = filled_names parts h
filled_names ((b ∷ part) ∷ parts) h =
    let both = or_parts (is_long (b ∷ part)) (list_any is_long parts) h in
    and_from _ _ (le-leb _ _ (ltb-false _ _ both.0)) (filled_names parts both.1)

joined_names : (parts : List (List ℕ)) → list_all is_xattr parts ≡ true → list_all (has_no 44) parts ≡ true → AreNames (join_with_byte 44 parts)
joined_names [] h apart = refl
joined_names (part ∷ parts) h apart = or_right _ _ (ap (list_all is_xattr) (split_join 44 part parts apart) ∙ h)

pub record AreReadNames (names : List ℕ) : Type 0 where
  pub sound : are_xattrs names ≡ true
  pub bytes : are_bytes names ≡ true

joined_read : (names : List ℕ) → are_bad names ≡ false → are_bytes names ≡ true → has_no 10 names ≡ true → AreReadNames (joined names)
joined_read names good bytes whole =
    let outer = or_parts (list_any (λ b. b == 0) names || nat_lt max_xattrs (length names)) (list_any is_long (split 44 names)) good in
    let inner = or_parts (list_any (λ b. b == 0) names) (nat_lt max_xattrs (length names)) outer.0 in
    let parts : List (List ℕ) = split 44 names in
    let fit : length names ≤ max_xattrs = ltb-false _ _ inner.1 in
    let all : (q : ℕ → Bool) → q 44 ≡ true → list_all q names ≡ true → list_all q (joined names) ≡ true =
    λ q comma h. all_join q 44 comma (filled parts) (filter_all (list_all q) (λ part. not (is_empty part)) parts (split_all q 44 names h)) in
    let short : length (joined names) ≤ max_xattrs =
    omega (arith, fit, join_size 44 (filled parts), filter_size (λ part. not (is_empty part)) parts, split_size 44 names) in
    record {
      sound = and_from _ _ (and_from _ _ (le-leb _ _ short) (all is_path_byte refl (path_bytes names inner.0 whole)))
          (joined_names (filled parts) (filled_names parts outer.1) (filter_all (has_no 44) (λ part. not (is_empty part)) parts (split_apart 44 names)));
      bytes = all (λ b. nat_lt b 256) refl bytes;
    }

drop_all_hold : (q : ℕ → Bool) (n : ℕ) (bytes : List ℕ) → list_all q bytes ≡ true → list_all q (drop n bytes) ≡ true
drop_all_hold q zero bytes h = h
drop_all_hold q (suc n) [] h = h
drop_all_hold q (suc n) (b ∷ bytes) h = drop_all_hold q n bytes (and_parts (q b) (list_all q bytes) h).1

pub names_read : (field names : List ℕ) → xattrs_of field ≡ Ok names → are_bytes field ≡ true → has_no 10 field ≡ true → AreReadNames names
unfolding xattrs_of
names_read field names e bytes whole = by (has_mark field) e
  where
    rest : List ℕ
    rest = drop (length mark) field

    by : (b : Bool) → cond b (refuse (are_bad rest) BadXattr >> Ok (joined rest)) (Ok []) ≡ Ok names → AreReadNames names
    by false h = let same : [] ≡ names = cc in subst AreReadNames same (record { sound = refl; bytes = refl })
    by true h =
        let good = passed (are_bad rest) BadXattr (Ok (joined rest)) names h in
        let same : joined rest ≡ names = let k = good.1 in cc in
        subst AreReadNames same (joined_read rest good.0 (drop_all_hold (λ b. nat_lt b 256) (length mark) field bytes) (drop_all_hold (λ b. not (b == 10)) (length mark) field whole))
