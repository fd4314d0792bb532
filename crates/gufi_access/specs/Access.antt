-- File access permissions (XBD 4.5), and those of an access control list (POSIX.1e, draft 17): the one class of the principal decides alone.
use Rattle.std.specs.Prelude.{ℕ, ◌/◌, ◌%◌, Bool, ◌==◌, ◌||◌, ◌&&◌, if◌then◌else◌, IsTrue, List, bit_and, Option, find, is_some, length}
use Rattle.std.specs.List.{list_any}
use Rattle.std.specs.Option.{option_map_or, option_map}
use Rattle.gufi_access.specs.declared.acl.Entry.{Entry}
use Rattle.gufi_access.specs.declared.class.Principal.{Principal}
use Rattle.gufi_access.specs.declared.class.Guard.{Guard}
use Rattle.gufi_access.specs.declared.class.Class.{Class}
use Rattle.gufi_access.specs.declared.class.Class.TheVariants.{Owner, Group, Other}
use Rattle.gufi_access.specs.Acl.{entries}

-- what decides the access to a file; there may be no access control list
pub record Rights : Type 0 where
  pub uid : ℕ
  pub gid : ℕ
  pub mode : ℕ
  pub acl : List ℕ

-- the rights that a guard states
abbrev pub rights : Guard → Rights
rights guard = record { uid = guard.uid; gid = guard.gid; mode = guard.mode; acl = guard.acl.now }

-- is a group among these groups
abbrev pub is_member : List ℕ → ℕ → Bool
is_member groups gid = list_any (λ group. group == gid) groups

-- the bits of the entry with this tag, or these
abbrev pub bits_of_tag : ℕ → List Entry → ℕ → ℕ
bits_of_tag tag es default = option_map_or (λ e. e.bits) (find (λ e. e.tag == tag) es) default

-- the bits of the entry that names this user
abbrev pub user_bits : ℕ → List Entry → Option ℕ
user_bits uid es = option_map (λ e. e.bits) (find (λ e. (e.tag == 1) && (e.id == uid)) es)

-- the file's group or a named group is among these
abbrev pub in_group : List ℕ → ℕ → List Entry → Bool
in_group groups gid es = is_member groups gid || list_any (λ e. (e.tag == 3) && is_member groups e.id) es

-- the class of a principal for a file: its owner, else its group or a named user or group, else the others
unfoldable pub class_for : Principal → Rights → Class
class_for who of =
    if who.uid == of.uid then Owner
    else (if in_group who.groups of.gid (entries of.acl) || is_some (user_bits who.uid (entries of.acl)) then Group else Other)

-- the three bits of a class, of the nine: read 4, write 2, search 1
abbrev pub class_bits : Class → ℕ → ℕ
class_bits Owner mode = mode / 64 % 8
class_bits Group mode = mode / 8 % 8
class_bits Other mode = mode % 8

-- these bits contain every bit that is wanted
abbrev pub has_bits : ℕ → ℕ → Bool
has_bits bits want = bit_and bits want == want

-- one entry contains all that is wanted: the owning group's, or a named group's, for one of these groups
abbrev pub group_grants : List ℕ → ℕ → List Entry → ℕ → Bool
group_grants groups gid es want =
    (is_member groups gid && has_bits (bits_of_tag 2 es 0) want) || list_any (λ e. (e.tag == 3) && (is_member groups e.id && has_bits e.bits want)) es

-- What the entries of a list grant to others than uid 0: the owner's entry to the owner, a named user's to him, a group's to its members, and else the
-- others'. What is granted by a name or a group is in the mask too.
unfoldable pub acl_grants : Principal → Rights → List Entry → ℕ → Bool
acl_grants who of es want =
    if who.uid == of.uid then has_bits (bits_of_tag 0 es 0) want
    else option_map_or (λ bits. has_bits bits want && has_bits (bits_of_tag 4 es 7) want)
    (user_bits who.uid es)
    (if in_group who.groups of.gid es
    then has_bits (bits_of_tag 4 es 7) want && group_grants who.groups of.gid es want
    else has_bits (bits_of_tag 5 es 0) want)

-- uid 0 is granted all; else the three bits of the one class decide alone, or the entries of the list where there is one
unfoldable pub is_granted : Principal → Rights → ℕ → Bool
is_granted who of want =
    (who.uid == 0)
    || (if length of.acl == 0 then has_bits (class_bits (class_for who of) of.mode) want else acl_grants who of (entries of.acl) want)

abbrev pub may_search : Principal → Rights → Bool
may_search who of = is_granted who of 1

-- read and search at once
unfoldable pub can_list : Principal → Rights → Bool
can_list who of = is_granted who of 5

abbrev pub Lists : Principal → Rights → Type 0
Lists who of = IsTrue (can_list who of)

-- every principal, with any numbers at all, who may list d may list c
unfoldable pub Covers : Rights → Rights → Type 0
Covers d c = (who : Principal) → Lists who d → Lists who c

-- the principal with this uid and these groups
abbrev pub principal : ℕ → List ℕ → Principal
principal uid groups = record { uid = uid; groups = groups }
