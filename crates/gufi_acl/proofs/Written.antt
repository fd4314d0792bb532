-- Entries between commas.
use Rattle.std.proofs.Common.{◌≡◌, ℕ, List, [], ◌∷◌, ◌++◌, Result, Ok, Err, map, sym, ap, ◌∙◌, append_assoc}
use Rattle.std.proofs.lemmas.List.{append-nil}
use Rattle.std.specs.Prelude.{OnOk}
use Rattle.std.specs.List.{flat_map, join_with_byte}
use Rattle.gufi_access.specs.declared.acl.Entry.{Entry}
use Rattle.gufi_acl.specs.AclTexts.{entry_text}

-- entries, each behind a comma
abbrev pub others_text : List Entry → List ℕ
others_text es = flat_map (λ entry. 44 ∷ entry_text entry) es

pub join_first : (e : Entry) (es : List Entry) → join_with_byte 44 (map entry_text (e ∷ es)) ≡ entry_text e ++ others_text es
join_first e [] = sym (append-nil (entry_text e))
join_first e (f ∷ es) = ap (λ (t : List ℕ). entry_text e ++ 44 ∷ t) (join_first f es)

-- the first entry, and then the others
pub put_on : {A E : Type 0} (r : Result A E) (old mid new : List ℕ) (e : Entry) (es all : List Entry) → mid ≡ old ++ entry_text e → all ≡ e ∷ es
    → OnOk r (new ≡ mid ++ others_text es) → OnOk r (new ≡ old ++ join_with_byte 44 (map entry_text all))
put_on (Ok x) old mid new e es all first same h =
    h ∙ ap (λ (t : List ℕ). t ++ others_text es) first ∙ append_assoc old (entry_text e) (others_text es)
    ∙ ap (λ (t : List ℕ). old ++ t) (sym (join_first e es) ∙ ap (λ (xs : List Entry). join_with_byte 44 (map entry_text xs)) (sym same))
put_on (Err x) old mid new e es all first same h = tt
