-- What a rule says by groups alone, and when another rule says it too.
use Rattle.std.proofs.Common.{◌≡◌, ℕ, Bool, true, false, not, ◌||◌, ◌&&◌, if◌then◌else◌, List, [], ◌∷◌, sym, ◌∙◌, refl, inl, inr}
use Rattle.std.specs.List.{list_any, list_all}
use Rattle.std.proofs.Math.Bool.{or-false}
use Rattle.std.proofs.lemmas.Bool.{cases_Bool, not-true, or_right, or_left, or_cases, and_from, and_parts}
use Rattle.gufi_access.specs.Seen.{groups_stay}
use Rattle.gufi_access.specs.Tried.{Rule, names, admits, admits_all, admits_none, groups_keep}
use Rattle.gufi_access.proofs.AnyLemmas.{any_weaker, any_second, any_never}
use Rattle.gufi_access.proofs.NamesLemmas.{admitted_named, unnamed_admits, at_named, all_named, at_admitted, all_admitted, none_admitted, no_ok}

-- a rule admits these groups: some of them must be admitted where one is named, and else the others are
unfoldable pub by_groups : Rule → List ℕ → Bool
by_groups r gs = if list_any (λ g. names g r.groups) gs then list_any (λ g. admits g r.groups) gs else r.other_ok

pub named_groups : (r : Rule) (gs : List ℕ) → list_any (λ g. names g r.groups) gs ≡ true → by_groups r gs ≡ list_any (λ g. admits g r.groups) gs
unfolding by_groups
named_groups r gs h = rw h refl

pub other_groups : (r : Rule) (gs : List ℕ) → list_any (λ g. names g r.groups) gs ≡ false → by_groups r gs ≡ r.other_ok
unfolding by_groups
other_groups r gs h = rw h refl

no_groups : (r : Rule) → by_groups r [] ≡ r.other_ok
unfolding by_groups
no_groups r = refl

-- ---- what a rule says of some groups

some_admitted : (r : Rule) (gs : List ℕ) → list_any (λ g. admits g r.groups) gs ≡ true → by_groups r gs ≡ true
some_admitted r gs h = named_groups r gs (any_weaker (λ g. admits g r.groups) (λ g. names g r.groups) (admitted_named r.groups) gs h) ∙ h

one_group : (r : Rule) (g : ℕ) → names g r.groups ≡ true → by_groups r (g ∷ []) ≡ admits g r.groups
one_group r g named = named_groups r (g ∷ []) (or_left (names g r.groups) false named) ∙ or-false (admits g r.groups)

one_other : (r : Rule) (g : ℕ) → names g r.groups ≡ false → by_groups r (g ∷ []) ≡ r.other_ok
one_other r g none = other_groups r (g ∷ []) (or-false (names g r.groups) ∙ none)

second_admitted : (r : Rule) (g h : ℕ) → names g r.groups ≡ false → names h r.groups ≡ true → by_groups r (g ∷ h ∷ []) ≡ true → admits h r.groups ≡ true
second_admitted r g h none named both =
    let some : (admits g r.groups || (admits h r.groups || false)) ≡ true =
    sym (named_groups r (g ∷ h ∷ []) (or_right (names g r.groups) (names h r.groups || false) (or_left (names h r.groups) false named))) ∙ both in
    let out = unnamed_admits r.groups g none in
    elim (or_cases (admits g r.groups) (admits h r.groups || false) some) [
      | inl first ↦ cc
      | inr second ↦ sym (or-false (admits h r.groups)) ∙ second
    ]

-- ---- all groups, and none

pub all_groups : (r : Rule) → admits_all r ≡ true → (gs : List ℕ) → by_groups r gs ≡ true
all_groups r all gs =
    let parts = and_parts r.other_ok (list_all (λ e. admits e.id r.groups) r.groups) all in
    elim (cases_Bool (list_any (λ g. names g r.groups) gs)) [
      | inl named ↦
          some_admitted r gs
          (any_weaker (λ g. names g r.groups) (λ g. admits g r.groups) (at_named (λ g. admits g r.groups) r.groups parts.1) gs named)
      | inr none ↦ other_groups r gs none ∙ parts.0
    ]

pub all_groups_back : (r : Rule) → ((gs : List ℕ) → by_groups r gs ≡ true) → admits_all r ≡ true
all_groups_back r each =
    and_from r.other_ok (list_all (λ e. admits e.id r.groups) r.groups) (sym (no_groups r) ∙ each [])
    (all_named (λ g. admits g r.groups) r.groups (λ g named. sym (one_group r g named) ∙ each (g ∷ [])))

pub none_groups : (r : Rule) → admits_none r ≡ true → (gs : List ℕ) → by_groups r gs ≡ false
none_groups r none gs =
    let parts = and_parts (not r.other_ok) (list_all (λ e. not e.ok) r.groups) none in
    elim (cases_Bool (list_any (λ g. names g r.groups) gs)) [
      | inl named ↦ named_groups r gs named ∙ any_never (λ g. admits g r.groups) (none_admitted r.groups parts.1) gs
      | inr others ↦ other_groups r gs others ∙ not-true r.other_ok parts.0
    ]

pub none_groups_back : (r : Rule) → ((gs : List ℕ) → by_groups r gs ≡ false) → admits_none r ≡ true
none_groups_back r each =
    let others : r.other_ok ≡ false = sym (no_groups r) ∙ each [] in
    and_from (not r.other_ok) (list_all (λ e. not e.ok) r.groups) (rw others refl)
    (no_ok r.groups (λ g. elim (cases_Bool (admits g r.groups)) [
      | inl admitted ↦
          let granted = some_admitted r (g ∷ []) (or_left (admits g r.groups) false admitted) in
          let denied = each (g ∷ []) in
          cc
      | inr out ↦ out
    ]))

-- ---- one rule after another

-- c admits all groups that d admits
abbrev pub GroupsKept : Rule → Rule → Type 0
GroupsKept d c = (gs : List ℕ) → by_groups d gs ≡ true → by_groups c gs ≡ true

stay_kept : (d c : Rule)
    → (not d.other_ok || (c.other_ok && list_all (λ e. names e.id d.groups || admits e.id c.groups) c.groups)) ≡ true
    → list_all (λ e. not e.ok || admits e.id c.groups) d.groups ≡ true
    → GroupsKept d c
stay_kept d c others admitted gs h =
    elim (cases_Bool (list_any (λ g. names g d.groups) gs)) [
      | inl named_d ↦
          let in_d : list_any (λ g. admits g d.groups) gs ≡ true = sym (named_groups d gs named_d) ∙ h in
          some_admitted c gs
          (any_weaker (λ g. admits g d.groups) (λ g. admits g c.groups) (at_admitted (λ g. admits g c.groups) d.groups admitted) gs in_d)
      | inr none_d ↦
          let d_ok : d.other_ok ≡ true = sym (other_groups d gs none_d) ∙ h in
          let both : (c.other_ok && list_all (λ e. names e.id d.groups || admits e.id c.groups) c.groups) ≡ true = rw d_ok at others in
          let parts = and_parts c.other_ok (list_all (λ e. names e.id d.groups || admits e.id c.groups) c.groups) both in
          elim (cases_Bool (list_any (λ g. names g c.groups) gs)) [
            | inl named_c ↦
                some_admitted c gs
                (any_second (λ g. names g d.groups) (λ g. admits g c.groups) gs
                (any_weaker (λ g. names g c.groups) (λ g. names g d.groups || admits g c.groups)
                (at_named (λ g. names g d.groups || admits g c.groups) c.groups parts.1) gs named_c)
                none_d)
            | inr none_c ↦ other_groups c gs none_c ∙ parts.0
          ]
    ]

pub groups_kept : (d c : Rule) → groups_keep d c ≡ true → GroupsKept d c
groups_kept d c keep gs h =
    elim (or_cases (admits_all c) (groups_stay d c) keep) [
      | inl all ↦ all_groups c all gs
      | inr stay ↦
          let parts = and_parts _ _ stay in
          stay_kept d c parts.0 parts.1 gs h
    ]

-- two groups tell that a group that d admits is admitted by c itself, or else c admits all
both_admit : (d c : Rule) → GroupsKept d c → admits_all c ≡ false → (g : ℕ) → admits g d.groups ≡ true → admits g c.groups ≡ true
both_admit d c kept not_all g in_d =
    let one_kept : by_groups c (g ∷ []) ≡ true = kept (g ∷ []) (some_admitted d (g ∷ []) (or_left (admits g d.groups) false in_d)) in
    elim (cases_Bool (admits g c.groups)) [
      | inl in_c ↦ in_c
      | inr out ↦ elim (cases_Bool (names g c.groups)) [
        | inl named_c ↦ let told = one_group c g named_c in cc
        | inr none_c ↦
            let c_ok : c.other_ok ≡ true = sym (one_other c g none_c) ∙ one_kept in
            let each : list_all (λ e. admits e.id c.groups) c.groups ≡ true =
            all_named (λ h. admits h c.groups) c.groups
            (λ h named_h. second_admitted c g h none_c named_h
            (kept (g ∷ h ∷ []) (some_admitted d (g ∷ h ∷ []) (or_left (admits g d.groups) (admits h d.groups || false) in_d)))) in
            let all : admits_all c ≡ true = and_from c.other_ok (list_all (λ e. admits e.id c.groups) c.groups) c_ok each in
            cc
      ]
    ]

others_stay : (d c : Rule) → GroupsKept d c
    → (not d.other_ok || (c.other_ok && list_all (λ e. names e.id d.groups || admits e.id c.groups) c.groups)) ≡ true
others_stay d c kept =
    elim (cases_Bool d.other_ok) [
      | inl d_ok ↦
          or_right (not d.other_ok) (c.other_ok && list_all (λ e. names e.id d.groups || admits e.id c.groups) c.groups)
          (and_from c.other_ok (list_all (λ e. names e.id d.groups || admits e.id c.groups) c.groups)
          (sym (no_groups c) ∙ kept [] (no_groups d ∙ d_ok))
          (all_named (λ h. names h d.groups || admits h c.groups) c.groups
          (λ h named_h. elim (cases_Bool (names h d.groups)) [
            | inl named_d ↦ or_left (names h d.groups) (admits h c.groups) named_d
            | inr none_d ↦
                or_right (names h d.groups) (admits h c.groups)
                (sym (one_group c h named_h) ∙ kept (h ∷ []) (one_other d h none_d ∙ d_ok))
          ])))
      | inr denied ↦ rw denied refl
    ]

pub groups_kept_back : (d c : Rule) → GroupsKept d c → groups_keep d c ≡ true
groups_kept_back d c kept =
    elim (cases_Bool (admits_all c)) [
      | inl all ↦ or_left (admits_all c) (groups_stay d c) all
      | inr not_all ↦
          or_right (admits_all c) (groups_stay d c)
          (and_from _ _ (others_stay d c kept) (all_admitted (λ g. admits g c.groups) d.groups (both_admit d c kept not_all)))
    ]
