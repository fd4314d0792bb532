-- The field of an access control list: what is read is sound, and what is written is read again.
use Rattle.std.proofs.Common.{◌≡◌, ℕ, Bool, true, false, cond, List, [], ◌∷◌, ◌++◌, length, refl, subst, arith}
use Rattle.std.specs.Prelude.{Ok}
use Rattle.gufi_base.specs.Basics.{is_empty, part_at, result_map_err}
use Rattle.gufi_base.specs.Rows.{are_bytes}
use Rattle.gufi_base.specs.Xattrs.{mark, are_xattrs}
use Rattle.gufi_access.specs.Acl.{is_acl_or_none}
use Rattle.gufi_acl.specs.AclTexts.{has_mark, acl_text, acl_of_text, IsReadAcl}
use Rattle.gufi_acl.proofs.Back.{acl_reads_back}
use Rattle.gufi_acl.proofs.Sound.{read_acls_are_sound}
use Rattle.gufi_acl.proofs.Plain.{acl_texts_are_plain}
use Rattle.gufi_line.specs.AttributeField.{xattrs_of}
use Rattle.gufi_line.specs.AclField.{kind_of, acl_field}
use Rattle.gufi_line.specs.TraceRows.{extra_fields}
use Rattle.gufi_line.proofs.AttributeNames.{names_seen, unmarked, xattrs_back}
use Rattle.gufi_line.proofs.MetaRead.{map_err_ok}

no_list : acl_field [] ≡ Ok []
unfolding acl_field
no_list = refl

pub no_bytes : (field : List ℕ) → length field ≡ 0 → acl_field field ≡ Ok []
no_bytes [] e = no_list
no_bytes (b ∷ field) e = absurd (omega arith)

marked_back : (acl : List ℕ) → is_empty acl ≡ false → is_acl_or_none acl ≡ true → are_bytes acl ≡ true → acl_field (acl_text acl) ≡ Ok acl
unfolding acl_field
marked_back acl some sound bytes = let text = acl_texts_are_plain acl in rw (text.marked some, acl_reads_back acl sound bytes) refl

pub acl_back : (names acl : List ℕ) → is_acl_or_none acl ≡ true → are_bytes acl ≡ true → acl_field (part_at (extra_fields names acl) 2) ≡ Ok acl
acl_back [] [] sound bytes = no_list
acl_back (n ∷ names) [] sound bytes = no_list
acl_back names (b ∷ acl) sound bytes = marked_back (b ∷ acl) refl sound bytes

pub names_back : (names acl : List ℕ) → are_xattrs names ≡ true → xattrs_of (part_at (extra_fields names acl) 1) ≡ Ok names
names_back names [] h = xattrs_back names h
names_back [] (b ∷ acl) h = unmarked [] refl
names_back (n ∷ names) (b ∷ acl) h = names_seen (mark ++ n ∷ names) (n ∷ names) refl refl h

pub acl_read : (field acl : List ℕ) → acl_field field ≡ Ok acl → IsReadAcl acl
unfolding acl_field
acl_read field acl e = by (has_mark field) e
  where
    by : (b : Bool) → cond b (result_map_err kind_of (acl_of_text field)) (Ok []) ≡ Ok acl → IsReadAcl acl
    by false h = let same : [] ≡ acl = cc in subst IsReadAcl same (record { sound = refl; bytes = refl; short = omega arith })
    by true h = read_acls_are_sound field acl (map_err_ok kind_of (acl_of_text field) acl h)
