-- What one look through the group file notes of some names.
use Rattle.std.proofs.Common.{◌≡◌, ℕ, true, false, not, List, [], ◌∷◌, ◌++◌, eqb, refl, sym, ap, ◌∙◌, subst, inl, inr, append_assoc, append-nil}
use Rattle.std.specs.Prelude.{Option, Some, None, option_map, IfSome, Vec, bytes_eq, filter, if◌then◌else◌}
use Rattle.std.specs.List.{list_any}
use Rattle.std.specs.Map.{lookup, set_value, values_of}
use Rattle.std.specs.declared.alloc.Global.{Global}
use Rattle.std.proofs.lemmas.Bool.{cases_Bool, eq-eqb}
use Rattle.std.proofs.lemmas.Slice.Eq.{bytes_eq-Decides}
use Rattle.indexmap.specs.IndexMap.{insert_entry}
use Rattle.gufi_base.specs.Basics.{is_empty, distinct, without}
use Rattle.gufi_users.specs.declared.group.Membership.{Membership}
use Rattle.gufi_users.specs.Entries.{GroupEntry}
use Rattle.gufi_users.specs.Users.{members_of, member_gids}
use Rattle.gufi_users.specs.Rows.{is_named, group_rows}
use Rattle.gufi_users.specs.Members.{GidLists, gids_at, noted_in, noted, noted_rows, Have, HaveMore}

-- ---- a table that is filled

-- a name more, without gids
listed : (name : List ℕ) (lists : GidLists) (key gids : Vec ℕ Global) → gids.items ≡ [] → IfSome (gids_at name lists) (λ (gids : List ℕ). gids ≡ [])
    → IfSome (gids_at name (insert_entry (λ (a b : Vec ℕ Global). bytes_eq a.items b.items) lists key gids)) (λ (gids : List ℕ). gids ≡ [])
listed name [] key gids none before =
    elim (cases_Bool (bytes_eq name key.items)) [
      | inl here ↦ rw here none
      | inr off ↦ rw off tt
    ]
listed name (row ∷ lists) key gids none before =
    elim (cases_Bool (bytes_eq key.items row.0.items)) [
      | inl same ↦ elim (cases_Bool (bytes_eq name row.0.items)) [
        | inl here ↦ rw (same, here) none
        | inr off ↦ rw (same, off) (rw off at before)
      ]
      | inr other ↦ elim (cases_Bool (bytes_eq name row.0.items)) [
        | inl here ↦ rw (other, here) (rw here at before)
        | inr off ↦ rw (other, off) (listed name lists key gids none (rw off at before))
      ]
    ]

pub names_listed : (before after : GidLists) (key gids : Vec ℕ Global) → gids.items ≡ [] → after ≡ insert_entry (λ (a b : Vec ℕ Global). bytes_eq a.items b.items) before key gids
    → Have (λ name. []) before → Have (λ name. []) after
names_listed before after key gids none is have name = subst (λ l. IfSome (gids_at name l) (λ (gids : List ℕ). gids ≡ [])) (sym is) (listed name before key gids none (have name))

-- a table without gids has what it has more
pub all_noted : (more : List ℕ → List ℕ) (before after : GidLists) → Have (λ name. []) before → HaveMore more before after → Have more after
all_noted more before after none have name = subst (λ o. IfSome o (λ (gids : List ℕ). gids ≡ more name)) (sym (have name)) (behind (gids_at name before) (none name))
  where
    behind : (o : Option (List ℕ)) → IfSome o (λ (gids : List ℕ). gids ≡ []) → IfSome (option_map (λ (gids : List ℕ). gids ++ more name) o) (λ (gids : List ℕ). gids ≡ more name)
    behind None e = tt
    behind (Some gids) e = ap (λ (l : List ℕ). l ++ more name) e

-- a table without names has what is wanted of each
pub none_named : (all : List ℕ → List ℕ) (lists : GidLists) → lists ≡ [] → Have all lists
none_named all lists none name = subst (λ l. IfSome (gids_at name l) (λ (gids : List ℕ). gids ≡ all name)) (sym none) tt

-- ---- gids more

more_nothing : (o : Option (List ℕ)) → o ≡ option_map (λ (gids : List ℕ). gids ++ []) o
more_nothing None = refl
more_nothing (Some gids) = ap Some (sym (append-nil gids))

pub nothing_more : (before after : GidLists) → after ≡ before → HaveMore (λ name. []) before after
nothing_more before after same name = ap (gids_at name) same ∙ more_nothing (gids_at name before)

more_twice : (one other both : List ℕ) (o : Option (List ℕ)) → one ++ other ≡ both
    → option_map (λ (gids : List ℕ). gids ++ other) (option_map (λ (gids : List ℕ). gids ++ one) o) ≡ option_map (λ (gids : List ℕ). gids ++ both) o
more_twice one other both None is = refl
more_twice one other both (Some gids) is = ap Some (append_assoc gids one other ∙ ap (λ (l : List ℕ). gids ++ l) is)

pub more_behind : (one other both : List ℕ → List ℕ) (before between after : GidLists) → ((name : List ℕ) → one name ++ other name ≡ both name)
    → HaveMore one before between → HaveMore other between after → HaveMore both before after
more_behind one other both before between after is first later name =
    later name ∙ ap (option_map (λ (gids : List ℕ). gids ++ other name)) (first name) ∙ more_twice (one name) (other name) (both name) (gids_at name before) (is name)

-- ---- one member

-- the table's own name
written_there : (member : List ℕ) (lists : GidLists) (was is : Vec ℕ Global) → lookup (is_named member) lists ≡ Some was → lookup (is_named member) (set_value (is_named member) lists is) ≡ Some is
written_there member [] was is there = absurd cc
written_there member (row ∷ lists) was is there =
    elim (cases_Bool (bytes_eq member row.0.items)) [
      | inl here ↦ rw (here, here) refl
      | inr off ↦ rw (off, off) (written_there member lists was is (rw off at there))
    ]

-- another name
written_beside : (name member : List ℕ) (lists : GidLists) (is : Vec ℕ Global) → bytes_eq name member ≡ false
    → lookup (is_named name) (set_value (is_named member) lists is) ≡ lookup (is_named name) lists
written_beside name member [] is apart = refl
written_beside name member (row ∷ lists) is apart =
    elim (cases_Bool (bytes_eq member row.0.items)) [
      | inl here ↦
          let same : member ≡ row.0.items = (bytes_eq-Decides member row.0.items).0 here in
          let off : bytes_eq name row.0.items ≡ false = ap (bytes_eq name) (sym same) ∙ apart in
          rw (here, off) refl
      | inr other ↦ elim (cases_Bool (bytes_eq name row.0.items)) [
        | inl here ↦ rw (other, here) refl
        | inr off ↦ rw (other, off) (written_beside name member lists is apart)
      ]
    ]

pub member_noted : (gid : ℕ) (member : List ℕ) (before after : GidLists) (was is : Vec ℕ Global) → lookup (is_named member) before ≡ Some was → is.items ≡ was.items ++ gid ∷ []
    → after ≡ set_value (is_named member) before is → HaveMore (λ name. noted_in name gid (member ∷ [])) before after
member_noted gid member before after was is there pushed set name =
    ap (gids_at name) set ∙
    elim (cases_Bool (bytes_eq name member)) [
      | inl here ↦
          let same : name ≡ member = (bytes_eq-Decides name member).0 here in
          let old : gids_at name before ≡ Some was.items = ap (λ n. gids_at n before) same ∙ ap (option_map (λ (gids : Vec ℕ Global). gids.items)) there in
          let new : gids_at name (set_value (is_named member) before is) ≡ Some is.items =
          ap (λ n. gids_at n (set_value (is_named member) before is)) same ∙ ap (option_map (λ (gids : Vec ℕ Global). gids.items)) (written_there member before was is there) in
          rw (here, new, old) (ap Some pushed)
      | inr off ↦ rw off (ap (option_map (λ (gids : Vec ℕ Global). gids.items)) (written_beside name member before is off) ∙ more_nothing (gids_at name before))
    ]

pub member_unknown : (gid : ℕ) (member : List ℕ) (before after : GidLists) → lookup (is_named member) before ≡ None → after ≡ before → HaveMore (λ name. noted_in name gid (member ∷ [])) before after
member_unknown gid member before after none set name =
    ap (gids_at name) set ∙
    elim (cases_Bool (bytes_eq name member)) [
      | inl here ↦
          let same : name ≡ member = (bytes_eq-Decides name member).0 here in
          let old : gids_at name before ≡ None = ap (λ n. gids_at n before) same ∙ ap (option_map (λ (gids : Vec ℕ Global). gids.items)) none in
          rw (here, old) refl
      | inr off ↦ rw off (more_nothing (gids_at name before))
    ]

-- ---- the members of a group

abbrev pub named_ones : List (List ℕ) → List (List ℕ)
named_ones pieces = filter (λ name. not (is_empty name)) pieces

noted_first : (name member : List ℕ) (gid : ℕ) (members : List (List ℕ)) → noted_in name gid (member ∷ []) ++ noted_in name gid members ≡ noted_in name gid (member ∷ members)
noted_first name member gid members =
    elim (cases_Bool (bytes_eq name member)) [
      | inl here ↦ rw here refl
      | inr off ↦ rw off refl
    ]

-- a piece that is a name, before the others
pub members_more : (gid : ℕ) (left rest : List (List ℕ)) (member : List ℕ) (before between : GidLists) → left ≡ member ∷ rest → is_empty member ≡ false
    → HaveMore (λ name. noted_in name gid (member ∷ [])) before between → (after : GidLists) → HaveMore (λ name. noted_in name gid (named_ones rest)) between after
    → HaveMore (λ name. noted_in name gid (named_ones left)) before after
members_more gid left rest member before between more named first after later =
    more_behind (λ name. noted_in name gid (member ∷ [])) (λ name. noted_in name gid (named_ones rest)) (λ name. noted_in name gid (named_ones left)) before between after
    (λ name. rw (more, named) (noted_first name member gid (named_ones rest))) first later

-- an empty piece
pub members_same : (left rest : List (List ℕ)) (member : List ℕ) → left ≡ member ∷ rest → is_empty member ≡ true → named_ones left ≡ named_ones rest
members_same left rest member more empty = rw (more, empty) refl

-- ---- the groups of a file

-- the rows of the table, as the rows of the file
noted_groups : (name : List ℕ) (rows : List (Vec ℕ Global × Membership)) → noted_rows name (values_of rows) ≡ noted name (group_rows rows)
noted_groups name [] = refl
noted_groups name (row ∷ rows) = ap (λ (l : List ℕ). noted_in name row.1.gid (members_of row.1.members) ++ l) (noted_groups name rows)

pub groups_noted : (rows : List (Vec ℕ Global × Membership)) (groups : List GroupEntry) (before after : GidLists) → group_rows rows ≡ groups
    → HaveMore (λ name. noted_rows name (values_of rows)) before after → HaveMore (λ name. noted name groups) before after
groups_noted rows groups before after is more name =
    more name ∙ ap (λ (l : List ℕ). option_map (λ (gids : List ℕ). gids ++ l) (gids_at name before)) (noted_groups name rows ∙ ap (noted name) is)

-- a group before the others
pub groups_more : (left rest : List Membership) (row : Membership) (text : List ℕ) (before between : GidLists) → left ≡ row ∷ rest → text ≡ row.members
    → HaveMore (λ name. noted_in name row.gid (members_of text)) before between → (after : GidLists) → HaveMore (λ name. noted_rows name rest) between after
    → HaveMore (λ name. noted_rows name left) before after
groups_more left rest row text before between more own first after later =
    subst (λ l. HaveMore (λ name. noted_rows name l) before after) (sym more)
    (more_behind (λ name. noted_in name row.gid (members_of row.members)) (λ name. noted_rows name rest) (λ name. noted_rows name (row ∷ rest)) before between after (λ name. refl)
    (subst (λ t. HaveMore (λ name. noted_in name row.gid (members_of t)) before between) own first) later)

-- ---- numbers without repeats

without_twice : (n : ℕ) (ns : List ℕ) → without n (without n ns) ≡ without n ns
without_twice n [] = refl
without_twice n (m ∷ ns) =
    elim (cases_Bool (eqb m n)) [
      | inl here ↦ rw here (without_twice n ns)
      | inr off ↦ rw (off, off) (ap (λ (l : List ℕ). m ∷ l) (without_twice n ns))
    ]

without_first : (n : ℕ) (ns : List ℕ) → without n (n ∷ without n ns) ≡ without n ns
without_first n ns = rw (eq-eqb n n refl) (without_twice n ns)

-- a group's number as often as a name stands among its members, and once
noted_once : (name : List ℕ) (gid : ℕ) (members : List (List ℕ)) (rest : List ℕ)
    → distinct (noted_in name gid members ++ rest) ≡ (if list_any (bytes_eq name) members then distinct (gid ∷ rest) else distinct rest)
noted_once name gid [] rest = refl
noted_once name gid (member ∷ members) rest =
    elim (cases_Bool (bytes_eq name member)) [
      | inl here ↦ elim (cases_Bool (list_any (bytes_eq name) members)) [
        | inl more ↦ rw here (ap (λ (l : List ℕ). gid ∷ without gid l) (noted_once name gid members rest) ∙ rw more (ap (λ (l : List ℕ). gid ∷ l) (without_first gid (distinct rest))))
        | inr last ↦ rw here (ap (λ (l : List ℕ). gid ∷ without gid l) (noted_once name gid members rest) ∙ rw last refl)
      ]
      | inr off ↦ rw off (noted_once name gid members rest)
    ]

noted_gids : (name : List ℕ) (groups : List GroupEntry) → distinct (noted name groups) ≡ distinct (member_gids name groups)
noted_gids name [] = refl
noted_gids name (entry ∷ groups) =
    noted_once name entry.gid entry.members (noted name groups) ∙
    elim (cases_Bool (list_any (bytes_eq name) entry.members)) [
      | inl here ↦ rw here (ap (λ (l : List ℕ). entry.gid ∷ without entry.gid l) (noted_gids name groups))
      | inr off ↦ rw off (noted_gids name groups)
    ]

pub distinct_noted : (first : ℕ) (name : List ℕ) (groups : List GroupEntry) → distinct (first ∷ noted name groups) ≡ distinct (first ∷ member_gids name groups)
distinct_noted first name groups = ap (λ (l : List ℕ). first ∷ without first l) (noted_gids name groups)
