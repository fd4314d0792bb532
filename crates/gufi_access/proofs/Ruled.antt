-- One rule covers another exactly where whoever passes the first passes the second.
use Rattle.std.proofs.Common.{◌≡◌, ◌⊎◌, ℕ, ◌+◌, ◌<◌, Bool, true, false, ◌==◌, ◌||◌, List, [], ◌∷◌, Option, Some, None, sym, ◌∙◌, refl, subst, inl, inr, arith, true≢false}
use Rattle.std.specs.Prelude.{find}
use Rattle.std.specs.List.{list_all}
use Rattle.std.specs.Option.{option_map_or}
use Rattle.std.proofs.lemmas.Bool.{cases_Bool, ne_eqb, eqb-true, or_right, or_left, or_parts, and_from, and_parts}
use Rattle.gufi_access.specs.Tried.{Named, Rule, names, groups_keep, said_of, said_keeps, user_keeps, rules_cover}
use Rattle.gufi_access.proofs.Grouped.{GroupsKept, by_groups, all_groups, all_groups_back, none_groups, none_groups_back, groups_kept, groups_kept_back}
use Rattle.gufi_access.proofs.NamesLemmas.{at_named, all_named}

-- a rule lets this user with these groups pass: uid 0, else by what it says of the user, else by the groups
unfoldable pub passes : Rule → ℕ → List ℕ → Bool
passes r uid gs = (uid == 0) || option_map_or (λ ok. ok) (said_of uid r) (by_groups r gs)

pub root_passes : (r : Rule) (uid : ℕ) (gs : List ℕ) → (uid == 0) ≡ true → passes r uid gs ≡ true
unfolding passes
root_passes r uid gs root = rw root refl

passes_at : (r : Rule) (uid : ℕ) (gs : List ℕ) (said : Option Bool) → said_of uid r ≡ said → (uid == 0) ≡ false
    → passes r uid gs ≡ option_map_or (λ ok. ok) said (by_groups r gs)
unfolding passes
passes_at r uid gs said is_said other = rw (other, is_said) refl

-- all who pass d pass c
abbrev pub Kept : Rule → Rule → Type 0
Kept d c = (uid : ℕ) (gs : List ℕ) → passes d uid gs ≡ true → passes c uid gs ≡ true

kept_by : (d c : Rule) (uid : ℕ) (gs : List ℕ) (in_d in_c : Option Bool) → said_of uid d ≡ in_d → said_of uid c ≡ in_c → (uid == 0) ≡ false
    → groups_keep d c ≡ true → said_keeps d c in_d in_c ≡ true → passes d uid gs ≡ true → passes c uid gs ≡ true
kept_by d c uid gs None None said_d said_c other keep test h =
    passes_at c uid gs None said_c other ∙ groups_kept d c keep gs (sym (passes_at d uid gs None said_d other) ∙ h)
kept_by d c uid gs None (Some true) said_d said_c other keep test h = passes_at c uid gs (Some true) said_c other
kept_by d c uid gs None (Some false) said_d said_c other keep test h =
    absurd (true≢false (sym h ∙ passes_at d uid gs None said_d other ∙ none_groups d test gs))
kept_by d c uid gs (Some true) None said_d said_c other keep test h = passes_at c uid gs None said_c other ∙ all_groups c test gs
kept_by d c uid gs (Some true) (Some true) said_d said_c other keep test h = passes_at c uid gs (Some true) said_c other
kept_by d c uid gs (Some true) (Some false) said_d said_c other keep test h = absurd (true≢false (sym test))
kept_by d c uid gs (Some false) in_c said_d said_c other keep test h = absurd (true≢false (sym h ∙ passes_at d uid gs (Some false) said_d other))

said_back : (d c : Rule) (uid : ℕ) (in_d in_c : Option Bool) → said_of uid d ≡ in_d → said_of uid c ≡ in_c → (uid == 0) ≡ false
    → Kept d c → said_keeps d c in_d in_c ≡ true
said_back d c uid None None said_d said_c other kept = refl
said_back d c uid None (Some true) said_d said_c other kept = refl
said_back d c uid None (Some false) said_d said_c other kept =
    none_groups_back d (λ gs. elim (cases_Bool (by_groups d gs)) [
      | inl granted ↦
          absurd (true≢false (sym (kept uid gs (passes_at d uid gs None said_d other ∙ granted)) ∙ passes_at c uid gs (Some false) said_c other))
      | inr denied ↦ denied
    ])
said_back d c uid (Some true) None said_d said_c other kept =
    all_groups_back c (λ gs. sym (passes_at c uid gs None said_c other) ∙ kept uid gs (passes_at d uid gs (Some true) said_d other))
said_back d c uid (Some true) (Some true) said_d said_c other kept = refl
said_back d c uid (Some true) (Some false) said_d said_c other kept =
    absurd (true≢false (sym (kept uid [] (passes_at d uid [] (Some true) said_d other)) ∙ passes_at c uid [] (Some false) said_c other))
said_back d c uid (Some false) None said_d said_c other kept = refl
said_back d c uid (Some false) (Some in_c) said_d said_c other kept = refl

-- ---- users that a rule names, and one that it doesn't

find_unnamed : (uid : ℕ) (es : List Named) → names uid es ≡ false → find (λ e. e.id == uid) es ≡ None
find_unnamed uid [] none = refl
find_unnamed uid (e ∷ es) none =
    let parts = or_parts (e.id == uid) (names uid es) none in
    rw parts.0 (find_unnamed uid es parts.1)

said_at : (q : ℕ → Bool) (r : Rule) → q r.owner ≡ true → list_all (λ e. q e.id) r.users ≡ true → (uid : ℕ) → (said_of uid r ≡ None) ⊎ (q uid ≡ true)
said_at q r at_owner at_users uid =
    elim (cases_Bool (uid == r.owner)) [
      | inl own ↦ inr (subst (λ (x : ℕ). q x ≡ true) (sym (eqb-true uid r.owner own)) at_owner)
      | inr other ↦ elim (cases_Bool (names uid r.users)) [
        | inl named ↦ inr (at_named q r.users at_users uid named)
        | inr none ↦ inl (rw (other, find_unnamed uid r.users none) refl)
      ]
    ]

unsaid_keeps : (d c : Rule) (in_d in_c : Option Bool) → in_d ≡ None → in_c ≡ None → said_keeps d c in_d in_c ≡ true
unsaid_keeps d c in_d in_c none_d none_c = rw (none_d, none_c) refl

every_user : (d c : Rule) → user_keeps d c d.owner ≡ true → user_keeps d c c.owner ≡ true
    → list_all (λ e. user_keeps d c e.id) d.users ≡ true → list_all (λ e. user_keeps d c e.id) c.users ≡ true
    → (uid : ℕ) → user_keeps d c uid ≡ true
every_user d c owner_d owner_c users_d users_c uid =
    elim (said_at (λ u. user_keeps d c u) d owner_d users_d uid) [
      | inr keeps ↦ keeps
      | inl none_d ↦ elim (said_at (λ u. user_keeps d c u) c owner_c users_c uid) [
        | inr keeps ↦ keeps
        | inl none_c ↦
            or_right (uid == 0) (said_keeps d c (said_of uid d) (said_of uid c)) (unsaid_keeps d c (said_of uid d) (said_of uid c) none_d none_c)
      ]
    ]

sum_ids : List Named → ℕ
sum_ids [] = 0
sum_ids (e ∷ es) = e.id + sum_ids es

above_all : (uid : ℕ) (es : List Named) → sum_ids es < uid → find (λ e. e.id == uid) es ≡ None
unfolding sum_ids
above_all uid [] above = refl
above_all uid (e ∷ es) above = rw (ne_eqb e.id uid (λ same. omega arith)) (above_all uid es (omega arith))

fresh_unsaid : (r : Rule) (uid : ℕ) → r.owner < uid → sum_ids r.users < uid → said_of uid r ≡ None
fresh_unsaid r uid over_owner over_users = rw (ne_eqb uid r.owner (λ same. omega arith), above_all uid r.users over_users) refl

-- ---- both ways

user_back : (d c : Rule) → Kept d c → (uid : ℕ) → user_keeps d c uid ≡ true
user_back d c kept uid =
    elim (cases_Bool (uid == 0)) [
      | inl root ↦ or_left (uid == 0) (said_keeps d c (said_of uid d) (said_of uid c)) root
      | inr other ↦ or_right (uid == 0) (said_keeps d c (said_of uid d) (said_of uid c)) (said_back d c uid _ _ refl refl other kept)
    ]

-- a user that neither names is told by groups alone
fresh_groups : (d c : Rule) → Kept d c → GroupsKept d c
fresh_groups d c kept gs h =
    let fresh : ℕ = 1 + d.owner + c.owner + sum_ids d.users + sum_ids c.users in
    let other : (fresh == 0) ≡ false = ne_eqb fresh 0 (λ same. omega arith) in
    sym (passes_at c fresh gs None (fresh_unsaid c fresh (omega arith) (omega arith)) other)
    ∙ kept fresh gs (passes_at d fresh gs None (fresh_unsaid d fresh (omega arith) (omega arith)) other ∙ h)

pub rules_kept : (d c : Rule) → rules_cover d c ≡ true → Kept d c
unfolding rules_cover
rules_kept d c test uid gs h =
    let p1 = and_parts _ _ test in
    let p2 = and_parts _ _ p1.1 in
    let p3 = and_parts _ _ p2.1 in
    let p4 = and_parts _ _ p3.1 in
    let keeps : user_keeps d c uid ≡ true = every_user d c p2.0 p3.0 p4.0 p4.1 uid in
    elim (cases_Bool (uid == 0)) [
      | inl root ↦ root_passes c uid gs root
      | inr other ↦ kept_by d c uid gs _ _ refl refl other p1.0 (or_else (uid == 0) _ other keeps) h
    ]
  where
    or_else : (x y : Bool) → x ≡ false → (x || y) ≡ true → y ≡ true
    or_else true y none some = absurd (true≢false none)
    or_else false y none some = some

pub rules_kept_back : (d c : Rule) → Kept d c → rules_cover d c ≡ true
unfolding rules_cover
rules_kept_back d c kept =
    let each : (es : List Named) → list_all (λ e. user_keeps d c e.id) es ≡ true =
    λ es. all_named (λ u. user_keeps d c u) es (λ u named. user_back d c kept u) in
    and_from _ _ (groups_kept_back d c (fresh_groups d c kept))
    (and_from _ _ (user_back d c kept d.owner) (and_from _ _ (user_back d c kept c.owner) (and_from _ _ (each d.users) (each c.users))))
