-- A row's JSON object, token by token.
use Rattle.std.proofs.Common.{◌≡◌, inl, inr, ℕ, Bool, true, false, List, [], ◌∷◌, ◌++◌, refl, sym, ap, ◌∙◌, append_assoc, IsUtf8}
use Rattle.std.specs.List.{flat_map}
use Rattle.std.specs.Str.{is_utf8}
use Rattle.std.proofs.lemmas.Str.{IsUtf8-from_is_utf8, is_utf8-from_IsUtf8}
use Rattle.std.proofs.lemmas.Bool.{cases_Bool}
use Rattle.json.specs.Token.{Token, begin_object, end_object}
use Rattle.json.specs.Json.{Members}
use Rattle.json.specs.Tree.{json_tokens, members_tokens}
use Rattle.gufi_select.specs.declared.column.Column.{Column}
use Rattle.gufi_select.specs.declared.condition.Value.{Value}
use Rattle.gufi_select.specs.declared.condition.Value.TheVariants.{Text, Number}
use Rattle.gufi_select.specs.Columns.{Seen, value_in}
use Rattle.gufi_forms.specs.Names.{column_name}
use Rattle.gufi_forms.specs.Objects.{with_value, row_members, row_object}
use Rattle.gufi_forms.specs.ObjectTokens.{value_tokens, column_tokens}

pub is_false : (t : Bool) → (t ≡ true → ⊥) → t ≡ false
is_false true h = absurd (h refl)
is_false false h = refl

pub is_text : (text : List ℕ) → IsUtf8 text → is_utf8 text ≡ true
is_text text h = is_utf8-from_IsUtf8 text h

pub is_no_text : (text : List ℕ) → ¬ (IsUtf8 text) → is_utf8 text ≡ false
is_no_text text other = is_false (is_utf8 text) (λ e. other (IsUtf8-from_is_utf8 text e))

pub text_put : (name bytes text : List ℕ) (old mid new : List Token) → IsUtf8 bytes → text ≡ bytes → mid ≡ old ++ Token.key name ∷ [] → new ≡ mid ++ Token.string text ∷ []
    → new ≡ old ++ value_tokens name (Text bytes)
text_put name bytes text old mid new is same first second =
    second ∙ rw (first, same, is_text bytes (is)) (append_assoc old (Token.key name ∷ []) (Token.string bytes ∷ []))

member_first : (name : List ℕ) (value : Value) (rest : Members) → members_tokens (with_value name value rest) ≡ value_tokens name value ++ members_tokens rest
member_first name (Number n) rest = refl
member_first name (Text bytes) rest =
    elim (cases_Bool (is_utf8 bytes)) [
      | inl is ↦ rw (is) refl
      | inr other ↦ rw other refl
    ]

pub members_first : (seen : Seen) (columns : List Column) → members_tokens (row_members seen columns) ≡ flat_map (column_tokens seen) columns ++ end_object ∷ []
members_first seen [] = refl
members_first seen (column ∷ columns) =
    member_first (column_name column) (value_in column seen) (row_members seen columns)
    ∙ ap (λ (ts : List Token). column_tokens seen column ++ ts) (members_first seen columns)
    ∙ sym (append_assoc (column_tokens seen column) (flat_map (column_tokens seen) columns) (end_object ∷ []))

pub object_put : (seen : Seen) (columns : List Column) (none begun all ended : List Token) → none ≡ [] → begun ≡ none ++ begin_object ∷ [] → all ≡ begun ++ flat_map (column_tokens seen) columns
    → ended ≡ all ++ end_object ∷ [] → ended ≡ json_tokens (row_object seen columns)
object_put seen columns none begun all ended start first middle last =
    last ∙ rw (middle, first, start) (ap (λ (ts : List Token). begin_object ∷ ts) (sym (members_first seen columns)))
