-- The test whether one directory covers another: of what their rights let list, as rules.
use Rattle.std.specs.Prelude.{ℕ, Bool, true, not, ◌==◌, ◌&&◌, ◌||◌, if◌then◌else◌, List, [], ◌∷◌, Option, Some, None, find, length}
use Rattle.std.specs.List.{list_all, list_any}
use Rattle.std.specs.Option.{option_map}
use Rattle.gufi_access.specs.declared.acl.Entry.{Entry}
use Rattle.gufi_access.specs.Acl.{entries}
use Rattle.gufi_access.specs.Access.{Rights, class_bits, has_bits, bits_of_tag}
use Rattle.gufi_access.specs.declared.class.Class.TheVariants.{Owner, Group, Other}

-- one named ID, and whether its entry lets the directory be listed
pub record Named : Type 0 where
  pub id : ℕ
  pub ok : Bool

-- all that a listing looks at: the owner, the named users, the owning and named groups, the others
pub record Rule : Type 0 where
  pub owner : ℕ
  pub owner_ok : Bool
  pub users : List Named
  pub groups : List Named
  pub other_ok : Bool

-- the entries with a tag, each with the mask
unfoldable pub named_by : ℕ → Bool → List Entry → List Named
named_by tag masked [] = []
named_by tag masked (e ∷ es) =
    if e.tag == tag then record { id = e.id; ok = masked && has_bits e.bits 5 } ∷ named_by tag masked es else named_by tag masked es

abbrev pub mode_rule : Rights → Rule
mode_rule of = record {
  owner = of.uid;
  owner_ok = has_bits (class_bits Owner of.mode) 5;
  users = [];
  groups = record { id = of.gid; ok = has_bits (class_bits Group of.mode) 5 } ∷ [];
  other_ok = has_bits (class_bits Other of.mode) 5;
}

abbrev pub acl_rule : Rights → List Entry → Rule
acl_rule of es =
    let masked = has_bits (bits_of_tag 4 es 7) 5 in
    record {
      owner = of.uid;
      owner_ok = has_bits (bits_of_tag 0 es 0) 5;
      users = named_by 1 masked es;
      groups = record { id = of.gid; ok = masked && has_bits (bits_of_tag 2 es 0) 5 } ∷ named_by 3 masked es;
      other_ok = has_bits (bits_of_tag 5 es 0) 5;
    }

unfoldable pub rule_of : Rights → Rule
rule_of of = if length of.acl == 0 then mode_rule of else acl_rule of (entries of.acl)

-- some entry names this ID
abbrev pub names : ℕ → List Named → Bool
names id es = list_any (λ e. e.id == id) es

-- some entry that names this ID grants
abbrev pub admits : ℕ → List Named → Bool
admits id es = list_any (λ e. (e.id == id) && e.ok) es

-- a rule admits whoever comes by his groups, whatever these are
abbrev pub admits_all : Rule → Bool
admits_all r = r.other_ok && list_all (λ e. admits e.id r.groups) r.groups

-- it admits nobody by his groups
abbrev pub admits_none : Rule → Bool
admits_none r = not r.other_ok && list_all (λ e. not e.ok) r.groups

-- Whoever d admits by his groups c admits by them. Where c turns some groups away, each group that d admits must be admitted by c itself, since its
-- members may be in one of those groups too: two groups tell more than one.
abbrev pub groups_keep : Rule → Rule → Bool
groups_keep d c =
    admits_all c
    || ((not d.other_ok || (c.other_ok && list_all (λ e. names e.id d.groups || admits e.id c.groups) c.groups))
    && list_all (λ e. not e.ok || admits e.id c.groups) d.groups)

-- what a rule says of this user, whatever his groups: nothing where it doesn't name him
abbrev pub said_of : ℕ → Rule → Option Bool
said_of uid r = if uid == r.owner then Some r.owner_ok else option_map (λ e. e.ok) (find (λ e. e.id == uid) r.users)

-- what d and c say of a user, where groups are kept
abbrev pub said_keeps : Rule → Rule → Option Bool → Option Bool → Bool
said_keeps d c None None = true
said_keeps d c None (Some in_c) = in_c || admits_none d
said_keeps d c (Some in_d) None = not in_d || admits_all c
said_keeps d c (Some in_d) (Some in_c) = not in_d || in_c

abbrev pub user_keeps : Rule → Rule → ℕ → Bool
user_keeps d c uid = (uid == 0) || said_keeps d c (said_of uid d) (said_of uid c)

unfoldable pub rules_cover : Rule → Rule → Bool
rules_cover d c =
    groups_keep d c
    && (user_keeps d c d.owner && (user_keeps d c c.owner && (list_all (λ e. user_keeps d c e.id) d.users && list_all (λ e. user_keeps d c e.id) c.users)))

-- Covers as a test
unfoldable pub covers : Rights → Rights → Bool
covers d c = rules_cover (rule_of d) (rule_of c)
