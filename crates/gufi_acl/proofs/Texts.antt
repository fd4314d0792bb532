-- What a text spells, by its entries.
use Rattle.std.proofs.Common.{◌≡◌, ℕ, true, false, ◌==◌, List, [], ◌∷◌, Option, Some, None, Ok, Err, length, drop, refl, sym, ap, arith}
use Rattle.std.specs.Prelude.{ok_or}
use Rattle.std.proofs.lemmas.Bool.{false≢true, eqb-true}
use Rattle.gufi_base.specs.Basics.{split, ◌>>=◌}
use Rattle.gufi_access.specs.declared.acl.Entry.{Entry}
use Rattle.gufi_acl.specs.declared.AclFault.TheVariants.{BadAcl}
use Rattle.gufi_acl.specs.AclTexts.{all_entries, sort_entries, acl_of_entries, acl_of_text}

pub text_none : (text : List ℕ) → true ≡ (length text == 0) → acl_of_text text ≡ Ok []
unfolding acl_of_text
text_none [] h = refl
text_none (b ∷ text) h = absurd (omega (arith, eqb-true (length (b ∷ text)) 0 (sym h)))

pub text_bad : (text : List ℕ) → false ≡ (length text == 0) → None ≡ all_entries (split 44 (drop 4 text)) → acl_of_text text ≡ Err BadAcl
unfolding acl_of_text
text_bad [] h e = absurd (false≢true h)
text_bad (b ∷ text) h e = ap (λ (o : Option (List Entry)). ok_or o BadAcl >>= (λ es. acl_of_entries (sort_entries es))) (sym e)

pub text_entries : (text : List ℕ) (es : List Entry) → false ≡ (length text == 0) → Some es ≡ all_entries (split 44 (drop 4 text))
    → acl_of_text text ≡ acl_of_entries (sort_entries es)
unfolding acl_of_text
text_entries [] es h e = absurd (false≢true h)
text_entries (b ∷ text) es h e = ap (λ (o : Option (List Entry)). ok_or o BadAcl >>= (λ es. acl_of_entries (sort_entries es))) (sym e)
