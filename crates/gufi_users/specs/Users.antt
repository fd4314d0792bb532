-- The passwd and group files, and who a USER word is.
use Rattle.std.specs.Prelude.{ℕ, ◌+◌, Bool, true, not, ◌==◌, ◌||◌, nat_lt, List, [], ◌∷◌, ◌++◌, map, filter, find, Option, Some, None, option_map, Result, Ok, Err, ok_or, if◌then◌else◌, bytes_eq, codes, decimal}
use Rattle.std.specs.List.{list_any}
use Rattle.std.specs.Option.{option_or, option_zip}
use Rattle.gufi_base.specs.Limits.{max_user_lines}
use Rattle.gufi_base.specs.Basics.{is_empty, text_lines, distinct, split, result_map_err, ◌>>=◌}
use Rattle.gufi_base.specs.Numbers.{read_u32, all_numbers}
use Rattle.gufi_access.specs.declared.class.Principal.{Principal}
use Rattle.gufi_users.specs.declared.fault.UserKind.{UserKind}
use Rattle.gufi_users.specs.declared.fault.UserKind.TheVariants.{Fields, Number, DoubleName, TooMany}
use Rattle.gufi_users.specs.declared.fault.UserError.{UserError}
use Rattle.gufi_users.specs.declared.fault.UserError.TheVariants.{Fault}
use Rattle.gufi_users.specs.Entries.{PasswdEntry, GroupEntry, UserTables}

-- empty lines and those that begin with '#', '+' or '-'
abbrev pub is_skipped : List ℕ → Bool
is_skipped [] = true
is_skipped (b ∷ rest) = b == 35 || b == 43 || b == 45

-- the texts of a line that are read
pub record PasswdTexts : Type 0 where
  pub name : List ℕ
  pub uid : List ℕ
  pub gid : List ℕ

pub record GroupTexts : Type 0 where
  pub name : List ℕ
  pub gid : List ℕ
  pub members : List ℕ

-- name, password, uid, gid, comment, home and shell, and nothing more
abbrev pub passwd_texts : List (List ℕ) → Option PasswdTexts
passwd_texts (name ∷ password ∷ uid ∷ gid ∷ comment ∷ home ∷ shell ∷ []) =
    if is_empty name then None else Some (record { name = name; uid = uid; gid = gid })
passwd_texts _ = None

-- name, password, gid and members, and nothing more
abbrev pub group_texts : List (List ℕ) → Option GroupTexts
group_texts (name ∷ password ∷ gid ∷ members ∷ []) =
    if is_empty name then None else Some (record { name = name; gid = gid; members = members })
group_texts _ = None

abbrev pub read_number : List ℕ → Result ℕ UserKind
read_number text = ok_or (read_u32 text) Number

-- the names between commas, without empty ones
abbrev pub members_of : List ℕ → List (List ℕ)
members_of text = filter (λ name. not (is_empty name)) (split 44 text)

-- a line of each file, whatever the other lines
unfoldable pub read_passwd_line : List ℕ → Result PasswdEntry UserKind
read_passwd_line text = do
  texts ← ok_or (passwd_texts (split 58 text)) Fields
  uid ← read_number texts.uid
  gid ← read_number texts.gid
  Ok (record { name = texts.name; uid = uid; gid = gid })

unfoldable pub read_group_line : List ℕ → Result GroupEntry UserKind
read_group_line text = do
  texts ← ok_or (group_texts (split 58 text)) Fields
  gid ← read_number texts.gid
  Ok (record { name = texts.name; gid = gid; members = members_of texts.members })

-- some earlier row has the name
abbrev pub has_name : {A : Type 0} → (A → List ℕ) → List ℕ → List A → Bool
has_name name_of name earlier = list_any (λ other. bytes_eq name (name_of other)) earlier

abbrev pub new_row : {A : Type 0} → (A → List ℕ) → List A → A → Result (List A) UserKind
new_row name_of earlier row = if has_name name_of (name_of row) earlier then Err DoubleName else Ok (earlier ++ row ∷ [])

-- line n behind earlier rows: the first fault that holds, or the rows with its own
abbrev pub with_line : {A : Type 0} → (A → List ℕ) → (List ℕ → Result A UserKind) → ℕ → List A → List ℕ → Result (List A) UserError
with_line name_of read n earlier text =
    if nat_lt max_user_lines n then Err (Fault n (TooMany max_user_lines))
    else (if is_skipped text then Ok earlier else result_map_err (Fault n) (read text >>= new_row name_of earlier))

-- the lines from number n on, behind earlier rows
unfoldable pub read_rows : {A : Type 0} → (A → List ℕ) → (List ℕ → Result A UserKind) → ℕ → List A → List (List ℕ) → Result (List A) UserError
read_rows name_of read n earlier [] = Ok earlier
read_rows name_of read n earlier (text ∷ rest) = with_line name_of read n earlier text >>= λ rows. read_rows name_of read (n + 1) rows rest

abbrev pub user_name : PasswdEntry → List ℕ
user_name user = user.name

abbrev pub group_name : GroupEntry → List ℕ
group_name entry = entry.name

unfoldable pub read_passwd : List ℕ → Result (List PasswdEntry) UserError
read_passwd bytes = read_rows user_name read_passwd_line 1 [] (text_lines bytes)

unfoldable pub read_group : List ℕ → Result (List GroupEntry) UserError
read_group bytes = read_rows group_name read_group_line 1 [] (text_lines bytes)

-- names and numbers, each the first in file order
abbrev pub user_named : UserTables → List ℕ → Option PasswdEntry
user_named tables name = find (λ user. bytes_eq name user.name) tables.users

abbrev pub uid_of : UserTables → List ℕ → Option ℕ
uid_of tables name = option_map (λ (user : PasswdEntry). user.uid) (user_named tables name)

abbrev pub gid_of : UserTables → List ℕ → Option ℕ
gid_of tables name = option_map (λ (entry : GroupEntry). entry.gid) (find (λ entry. bytes_eq name entry.name) tables.groups)

abbrev pub name_of_uid : UserTables → ℕ → Option (List ℕ)
name_of_uid tables uid = option_map (λ (user : PasswdEntry). user.name) (find (λ user. user.uid == uid) tables.users)

abbrev pub name_of_gid : UserTables → ℕ → Option (List ℕ)
name_of_gid tables gid = option_map (λ (entry : GroupEntry). entry.name) (find (λ entry. entry.gid == gid) tables.groups)

-- a named user has the passwd gid, and each group that holds his name
abbrev pub holds_member : List ℕ → GroupEntry → Bool
holds_member name entry = list_any (bytes_eq name) entry.members

abbrev pub member_gids : List ℕ → List GroupEntry → List ℕ
member_gids name groups = map (λ entry. entry.gid) (filter (holds_member name) groups)

abbrev pub groups_of : UserTables → PasswdEntry → List ℕ
groups_of tables user = distinct (user.gid ∷ member_gids user.name tables.groups)

abbrev pub principal_from : Option ℕ → Option (List ℕ) → Option Principal
principal_from uid groups = option_map (λ p. record { uid = p.0; groups = p.1 }) (option_zip uid groups)

-- no groups, or the numbers between commas
abbrev pub group_numbers : List ℕ → Option (List ℕ)
group_numbers text = if is_empty text then Some [] else all_numbers (split 44 text)

-- `UID`, or `UID:` and no groups or some
abbrev pub numbered_principal : List (List ℕ) → Option Principal
numbered_principal [] = None
numbered_principal (uid ∷ []) = principal_from (read_u32 uid) (Some [])
numbered_principal (uid ∷ groups ∷ []) = principal_from (read_u32 uid) (group_numbers groups)
numbered_principal (uid ∷ groups ∷ more ∷ rest) = None

abbrev pub user_principal : UserTables → PasswdEntry → Principal
user_principal tables user = record { uid = user.uid; groups = groups_of tables user }

unfoldable pub principal_of : UserTables → List ℕ → Option Principal
principal_of tables word = option_or (option_map (user_principal tables) (user_named tables word)) (numbered_principal (split 58 word))

-- a fault as it is printed
abbrev pub user_kind_text : UserKind → List ℕ
user_kind_text Fields = codes "Fields"
user_kind_text Number = codes "Number"
user_kind_text DoubleName = codes "DoubleName"
user_kind_text (TooMany limit) = codes "TooMany " ++ decimal limit
