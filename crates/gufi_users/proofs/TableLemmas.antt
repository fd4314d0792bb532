-- What the tables by name hold, as the rows of a file.
use Rattle.std.proofs.Common.{◌≡◌, ℕ, Bool, List, [], ◌∷◌, refl, sym, ap, inl, inr}
use Rattle.std.specs.Prelude.{Some, None, option_map, Vec, bytes_eq, find, filter, map, MatchOption}
use Rattle.std.specs.List.{list_any}
use Rattle.std.specs.Map.{lookup, values_of}
use Rattle.std.specs.declared.alloc.Global.{Global}
use Rattle.std.proofs.lemmas.Bool.{cases_Bool}
use Rattle.std.proofs.lemmas.Slice.Eq.{bytes_eq-Decides}
use Rattle.gufi_users.specs.declared.passwd.Account.{Account}
use Rattle.gufi_users.specs.declared.group.Membership.{Membership}
use Rattle.gufi_users.specs.Entries.{PasswdEntry, GroupEntry}
use Rattle.gufi_users.specs.Users.{members_of, member_gids}
use Rattle.gufi_users.specs.Rows.{is_named, passwd_rows, group_rows}

pub passwd_uids : (rows : List (Vec ℕ Global × Account)) → map (λ (user : PasswdEntry). user.uid) (passwd_rows rows) ≡ map (λ (account : Account). account.uid) (values_of rows)
passwd_uids [] = refl
passwd_uids (row ∷ rows) = ap (λ l. row.1.uid ∷ l) (passwd_uids rows)

pub group_gids : (rows : List (Vec ℕ Global × Membership)) → map (λ (entry : GroupEntry). entry.gid) (group_rows rows) ≡ map (λ (group : Membership). group.gid) (values_of rows)
group_gids [] = refl
group_gids (row ∷ rows) = ap (λ l. row.1.gid ∷ l) (group_gids rows)

abbrev has_member : List ℕ → Membership → Bool
has_member name group = list_any (bytes_eq name) (members_of group.members)

pub member_gids_of : (name : List ℕ) (rows : List (Vec ℕ Global × Membership)) → member_gids name (group_rows rows) ≡ map (λ (group : Membership). group.gid) (filter (has_member name) (values_of rows))
member_gids_of name [] = refl
member_gids_of name (row ∷ rows) =
    elim (cases_Bool (list_any (bytes_eq name) (members_of row.1.members))) [
      | inl here ↦ rw here (ap (λ l. row.1.gid ∷ l) (member_gids_of name rows))
      | inr off ↦ rw off (member_gids_of name rows)
    ]

-- the first user of a name
pub user_found : (name : List ℕ) (rows : List (Vec ℕ Global × Account))
    → MatchOption (lookup (is_named name) rows)
    (find (λ user. bytes_eq name user.name) (passwd_rows rows) ≡ None)
    (λ account. find (λ user. bytes_eq name user.name) (passwd_rows rows) ≡ Some (record { name = name; uid = account.uid; gid = account.gid }))
user_found name [] = refl
user_found name (row ∷ rows) =
    elim (cases_Bool (bytes_eq name row.0.items)) [
      | inl here ↦ let same : name ≡ row.0.items = (bytes_eq-Decides name row.0.items).0 here in rw here (ap (λ (n : List ℕ). Some (record { name = n; uid = row.1.uid; gid = row.1.gid })) (sym same))
      | inr off ↦ rw off (user_found name rows)
    ]

-- the gid of the first group of a name
pub group_found : (name : List ℕ) (rows : List (Vec ℕ Global × Membership))
    → option_map (λ (entry : GroupEntry). entry.gid) (find (λ entry. bytes_eq name entry.name) (group_rows rows)) ≡ option_map (λ (group : Membership). group.gid) (lookup (is_named name) rows)
group_found name [] = refl
group_found name (row ∷ rows) =
    elim (cases_Bool (bytes_eq name row.0.items)) [
      | inl here ↦ rw here refl
      | inr off ↦ rw off (group_found name rows)
    ]
