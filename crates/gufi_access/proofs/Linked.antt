-- Whoever may list a directory passes the rule that is made of its rights.
use Rattle.std.proofs.Common.{◌≡◌, ℕ, Bool, true, false, ◌||◌, ◌&&◌, ◌==◌, List, [], ◌∷◌, length, sym, ◌∙◌, ap, refl, inl, inr}
use Rattle.std.specs.Prelude.{find}
use Rattle.std.specs.List.{list_any}
use Rattle.std.specs.Option.{option_map_or, option_map}
use Rattle.std.proofs.Math.Bool.{and_comm, or-false, and-false, and-or_distrib_right}
use Rattle.std.proofs.lemmas.Bool.{cases_Bool, cases_eq, eq-eqb, ne_eqb, eqb-true}
use Rattle.gufi_access.specs.declared.acl.Entry.{Entry}
use Rattle.gufi_access.specs.declared.class.Principal.{Principal}
use Rattle.gufi_access.specs.declared.class.Class.TheVariants.{Group}
use Rattle.gufi_access.specs.Acl.{entries}
use Rattle.gufi_access.specs.Access.{Rights, is_member, bits_of_tag, user_bits, has_bits, class_bits, acl_grants, is_granted, can_list}
use Rattle.gufi_access.specs.Seen.{mode_class}
use Rattle.gufi_access.specs.Tried.{Named, named_by, mode_rule, acl_rule, rule_of, names, admits}
use Rattle.gufi_access.proofs.EntryLemmas.{class_for_mode}
use Rattle.gufi_access.proofs.AnyLemmas.{any_never, any_either}
use Rattle.gufi_access.proofs.Grouped.{by_groups}
use Rattle.gufi_access.proofs.Ruled.{passes}

-- ---- the groups of a principal against the named IDs, and the other way round

eqb_flip : (a b : ℕ) → (a == b) ≡ (b == a)
eqb_flip a b =
    elim (cases_eq a b) [
      | inl same ↦ eq-eqb a b same ∙ sym (eq-eqb b a (sym same))
      | inr apart ↦ ne_eqb a b apart ∙ sym (ne_eqb b a (λ same. apart (sym same)))
    ]

named_swap : (gs : List ℕ) (es : List Named) → list_any (λ g. names g es) gs ≡ list_any (λ e. is_member gs e.id) es
named_swap [] es = sym (any_never (λ e. is_member [] e.id) (λ e. refl) es)
named_swap (g ∷ gs) es =
    let here : names g es ≡ list_any (λ e. g == e.id) es = ap (λ f. list_any f es) (λ i e. eqb_flip e.id g i) in
    rw (here, named_swap gs es) (sym (any_either (λ e. g == e.id) (λ e. is_member gs e.id) es))

admits_swap : (gs : List ℕ) (es : List Named) → list_any (λ g. admits g es) gs ≡ list_any (λ e. is_member gs e.id && e.ok) es
admits_swap [] es = sym (any_never (λ e. is_member [] e.id && e.ok) (λ e. refl) es)
admits_swap (g ∷ gs) es =
    let here : admits g es ≡ list_any (λ e. (g == e.id) && e.ok) es = ap (λ f. list_any f es) (λ i e. eqb_flip e.id g i && e.ok) in
    let split : list_any (λ e. ((g == e.id) || is_member gs e.id) && e.ok) es ≡ list_any (λ e. ((g == e.id) && e.ok) || (is_member gs e.id && e.ok)) es =
    ap (λ f. list_any f es) (λ i e. and-or_distrib_right (g == e.id) (is_member gs e.id) e.ok i) in
    rw (here, admits_swap gs es) (sym (split ∙ any_either (λ e. (g == e.id) && e.ok) (λ e. is_member gs e.id && e.ok) es))

-- ---- the entries of a list as named IDs

said_by_entry : (uid : ℕ) (masked : Bool) (es : List Entry) (rest : Bool)
    → option_map_or (λ ok. ok) (option_map (λ e. e.ok) (find (λ e. e.id == uid) (named_by 1 masked es))) rest
    ≡ option_map_or (λ bits. has_bits bits 5 && masked) (user_bits uid es) rest
unfolding named_by
said_by_entry uid masked [] rest = refl
said_by_entry uid masked (e ∷ es) rest =
    elim (cases_Bool (e.tag == 1)) [
      | inl user ↦ elim (cases_Bool (e.id == uid)) [
        | inl same ↦ rw (user, same) (and_comm masked (has_bits e.bits 5))
        | inr other ↦ rw (user, other) (said_by_entry uid masked es rest)
      ]
      | inr other ↦ rw other (said_by_entry uid masked es rest)
    ]

named_members : (gs : List ℕ) (masked : Bool) (es : List Entry)
    → list_any (λ n. is_member gs n.id) (named_by 3 masked es) ≡ list_any (λ e. (e.tag == 3) && is_member gs e.id) es
unfolding named_by
named_members gs masked [] = refl
named_members gs masked (e ∷ es) =
    elim (cases_Bool (e.tag == 3)) [
      | inl group ↦ rw (group, named_members gs masked es) refl
      | inr other ↦ rw other (named_members gs masked es)
    ]

distribute : (m h ok x : Bool) → ((m && (ok && h)) || (ok && x)) ≡ (ok && ((m && h) || x))
distribute true true true x = refl
distribute true true false x = refl
distribute true false true x = refl
distribute true false false x = refl
distribute false h true x = refl
distribute false h false x = refl

granting_members : (gs : List ℕ) (masked : Bool) (es : List Entry)
    → list_any (λ n. is_member gs n.id && n.ok) (named_by 3 masked es)
    ≡ (masked && list_any (λ e. (e.tag == 3) && (is_member gs e.id && has_bits e.bits 5)) es)
unfolding named_by
granting_members gs masked [] = sym (and-false masked)
granting_members gs masked (e ∷ es) =
    elim (cases_Bool (e.tag == 3)) [
      | inl group ↦
          rw (group, granting_members gs masked es)
          (distribute (is_member gs e.id) (has_bits e.bits 5) masked
          (list_any (λ e. (e.tag == 3) && (is_member gs e.id && has_bits e.bits 5)) es))
      | inr other ↦ rw other (granting_members gs masked es)
    ]

-- ---- a mode and a list

list_by_mode : (p : Principal) (r : Rights) (root owner member : Bool)
    → (p.uid == 0) ≡ root → (p.uid == r.uid) ≡ owner → is_member p.groups r.gid ≡ member
    → ((p.uid == 0) || has_bits (class_bits (mode_class p r) r.mode) 5) ≡ passes (mode_rule r) p.uid p.groups
unfolding passes by_groups
list_by_mode p r true owner member is_root is_owner is_in = rw is_root refl
list_by_mode p r false true member is_root is_owner is_in = rw (is_root, is_owner) refl
list_by_mode p r false false true is_root is_owner is_in =
    rw (named_swap p.groups (mode_rule r).groups, admits_swap p.groups (mode_rule r).groups, is_root, is_owner, is_in)
    (sym (or-false (has_bits (class_bits Group r.mode) 5)))
list_by_mode p r false false false is_root is_owner is_in =
    rw (named_swap p.groups (mode_rule r).groups, admits_swap p.groups (mode_rule r).groups, is_root, is_owner, is_in) refl

list_by_acl : (p : Principal) (r : Rights) (es : List Entry) (owner : Bool) → (p.uid == r.uid) ≡ owner
    → ((p.uid == 0) || acl_grants p r es 5) ≡ passes (acl_rule r es) p.uid p.groups
unfolding acl_grants passes by_groups
list_by_acl p r es true is_owner = rw is_owner refl
list_by_acl p r es false is_owner =
    let masked = has_bits (bits_of_tag 4 es 7) 5 in
    rw (
      is_owner,
      named_swap p.groups (acl_rule r es).groups,
      admits_swap p.groups (acl_rule r es).groups,
      said_by_entry p.uid masked es,
      named_members p.groups masked es,
      granting_members p.groups masked es,
      distribute (is_member p.groups r.gid) (has_bits (bits_of_tag 2 es 0) 5) masked
          (list_any (λ e. (e.tag == 3) && (is_member p.groups e.id && has_bits e.bits 5)) es),
    ) refl

pub can_list_rule : (p : Principal) (r : Rights) → can_list p r ≡ passes (rule_of r) p.uid p.groups
unfolding can_list is_granted rule_of
can_list_rule p r =
    elim (cases_Bool (length r.acl == 0)) [
      | inl empty ↦ rw (empty, class_for_mode p r (eqb-true (length r.acl) 0 empty)) (list_by_mode p r _ _ _ refl refl refl)
      | inr listed ↦ rw listed (list_by_acl p r (entries r.acl) _ refl)
    ]
