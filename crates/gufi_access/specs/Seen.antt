-- What the code keeps of rights and rules, as the definitions see it.
use Rattle.std.specs.Prelude.{ℕ, Bool, true, not, ◌==◌, ◌&&◌, ◌||◌, if◌then◌else◌, List, ◌∷◌, Option, Some, None}
use Rattle.std.specs.List.{list_all}
use Rattle.gufi_access.specs.declared.class.Principal.{Principal}
use Rattle.gufi_access.specs.declared.class.Class.{Class}
use Rattle.gufi_access.specs.declared.class.Class.TheVariants.{Owner, Group, Other}
use Rattle.gufi_access.specs.declared.listing.NamedId.{NamedId}
use Rattle.gufi_access.specs.declared.listing.NamedIds.{NamedIds}
use Rattle.gufi_access.specs.declared.listing.Listing.{Listing}
use Rattle.gufi_access.specs.Acl.{entries, entries_left}
use Rattle.gufi_access.specs.Access.{Rights, is_member}
use Rattle.gufi_access.specs.Tried.{Named, Rule, named_by, names, admits, said_of}

-- the class of a principal where there is no list
abbrev pub mode_class : Principal → Rights → Class
mode_class who of = if who.uid == of.uid then Owner else (if is_member who.groups of.gid then Group else Other)

abbrev pub seen_id : NamedId → Named
seen_id n = record { id = n.id; ok = n.ok }

-- the rule that a listing looks at
abbrev pub seen : Listing → Rule
seen l = record {
  owner = l.owner;
  owner_ok = l.owner_ok;
  users = named_by 1 l.masked (entries l.acl.now);
  groups = record { id = l.gid; ok = l.gid_ok } ∷ named_by 3 l.masked (entries l.acl.now);
  other_ok = l.other_ok;
}

abbrev pub first_then : Option NamedId → List Named → List Named
first_then None rest = rest
first_then (Some first) rest = seen_id first ∷ rest

-- the named IDs that an iterator has left
abbrev pub named_left : NamedIds → List Named
named_left s = first_then s.first (named_by s.tag s.masked (entries_left s.rest))

-- where c turns some groups away, whoever d admits by his groups c admits by them
abbrev pub groups_stay : Rule → Rule → Bool
groups_stay d c =
    (not d.other_ok || (c.other_ok && list_all (λ e. names e.id d.groups || admits e.id c.groups) c.groups))
    && list_all (λ e. not e.ok || admits e.id c.groups) d.groups

-- whoever d admits by his groups c admits by them, where it is known whether c admits all
unfoldable pub groups_kept : Bool → Rule → Rule → Bool
groups_kept all d c = all || groups_stay d c

-- what d and c say of a user is kept, where it is known whether d admits none by groups and c all
abbrev pub said_stays : Bool → Bool → Option Bool → Option Bool → Bool
said_stays none all None None = true
said_stays none all None (Some in_c) = in_c || none
said_stays none all (Some in_d) None = not in_d || all
said_stays none all (Some in_d) (Some in_c) = not in_d || in_c

unfoldable pub user_stays : Bool → Bool → Rule → Rule → ℕ → Bool
user_stays none all d c uid = (uid == 0) || said_stays none all (said_of uid d) (said_of uid c)

-- so of each user that one of them names
unfoldable pub users_stay : Bool → Bool → Rule → Rule → Bool
users_stay none all d c =
    user_stays none all d c d.owner
    && (user_stays none all d c c.owner
    && (list_all (λ e. user_stays none all d c e.id) d.users && list_all (λ e. user_stays none all d c e.id) c.users))
