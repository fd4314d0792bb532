-- Lists at worked texts.
use Rattle.std.proofs.Common.{◌≡◌, ℕ, List, [], ◌∷◌, ◌++◌, map, refl}
use Rattle.std.specs.Prelude.{Ok, Err, codes, decimal}
use Rattle.std.specs.Fmt.{digits}
use Rattle.std.specs.List.{join_with_byte, range_with_len}
use Rattle.gufi_access.specs.Acl.{entries, ascends_after, count_of}
use Rattle.gufi_acl.specs.declared.AclFault.TheVariants.{BadAcl, TooManyEntries}
use Rattle.gufi_acl.specs.AclTexts.{read_bits, entry_in, all_entries, acl_text, acl_of_text}

-- an owner, a named user 0, an owning group, a mask and the others
abbrev five : List ℕ
five =
    0 ∷ 7 ∷ 0 ∷ 0 ∷ 0 ∷ 0 ∷ (1 ∷ 4 ∷ 0 ∷ 0 ∷ 0 ∷ 0 ∷ (2 ∷ 4 ∷ 0 ∷ 0 ∷ 0 ∷ 0 ∷ (4 ∷ 5 ∷ 0 ∷ 0 ∷ 0 ∷ 0 ∷ (5 ∷ 0 ∷ 0 ∷ 0 ∷ 0 ∷ 0 ∷ []))))

in_any_order : acl_of_text (codes "acl/o::---,u:0:r--,m::r-x,g::r--,u::rwx") ≡ Ok five
unfolding acl_of_text all_entries entry_in read_bits ascends_after count_of
in_any_order = refl

written : acl_text five ≡ codes "acl/user::rwx,user:0:r--,group::r--,mask::r-x,other::---"
unfolding acl_text entries digits
written = refl

large_id : acl_of_text (codes "acl/user::rw-,group::r--,group:4294967295:-wx,mask::rwx,other::r--")
    ≡ Ok (0 ∷ 6 ∷ 0 ∷ 0 ∷ 0 ∷ 0 ∷ (2 ∷ 4 ∷ 0 ∷ 0 ∷ 0 ∷ 0 ∷ (3 ∷ 3 ∷ 255 ∷ 255 ∷ 255 ∷ 255 ∷ (4 ∷ 7 ∷ 0 ∷ 0 ∷ 0 ∷ 0 ∷ (5 ∷ 4 ∷ 0 ∷ 0 ∷ 0 ∷ 0 ∷ [])))))
unfolding acl_of_text all_entries entry_in read_bits ascends_after count_of
large_id = refl

too_large_id : acl_of_text (codes "acl/user::rw-,group::r--,group:4294967296:-wx,mask::rwx,other::r--") ≡ Err BadAcl
unfolding acl_of_text all_entries entry_in read_bits
too_large_id = refl

mark_alone : acl_of_text (codes "acl/") ≡ Err BadAcl
unfolding acl_of_text all_entries entry_in
mark_alone = refl

leading_zero : acl_of_text (codes "acl/user::rw-,user:5:r--,u:05:r--,group::r--,mask::r--,other::---") ≡ Err BadAcl
unfolding acl_of_text all_entries entry_in read_bits ascends_after
leading_zero = refl

no_mask : acl_of_text (codes "acl/user::rw-,user:5:r--,group::r--,other::---") ≡ Err BadAcl
unfolding acl_of_text all_entries entry_in read_bits ascends_after count_of
no_mask = refl

mask_with_id : acl_of_text (codes "acl/user::rw-,group::r--,mask:3:r--,other::---") ≡ Err BadAcl
unfolding acl_of_text all_entries entry_in read_bits
mask_with_id = refl

other_order : acl_of_text (codes "acl/user::wr-,group::r--,other::---") ≡ Err BadAcl
unfolding acl_of_text all_entries entry_in read_bits
other_order = refl

-- so many named users
abbrev with_users : ℕ → List ℕ
with_users count = codes "acl/u::rwx,g::r-x,m::rwx,o::---," ++ join_with_byte 44 (map (λ n. codes "u:" ++ (decimal n ++ codes ":r--")) (range_with_len 1 count))

too_many : acl_of_text (with_users 33) ≡ Err TooManyEntries
unfolding acl_of_text all_entries entry_in read_bits ascends_after count_of digits
too_many = refl
