-- The line of a group, piece by piece.
use Rattle.std.proofs.Common.{◌≡◌, ℕ, List, [], ◌∷◌, ◌++◌, map, sym, ap, ◌∙◌, append_assoc, append-nil}
use Rattle.std.specs.Prelude.{Option}
use Rattle.std.specs.List.{join_with_byte}
use Rattle.gufi_base.specs.Basics.{line}
use Rattle.gufi_users.specs.Entries.{UserTables}
use Rattle.gufi_agg.specs.declared.agg.AggKey.{AggKey}
use Rattle.gufi_agg.specs.declared.agg.Item.{Item}
use Rattle.gufi_agg.specs.declared.groups.Group.{Group}
use Rattle.gufi_agg.specs.Aggs.{Agg}
use Rattle.gufi_agg.specs.Texts.{key_text, item_text, tabbed_items, group_line}

-- texts joined by tabs are the first, and each other behind a tab
joined-items : (text : List ℕ) (items : List Item) (group : Group) → join_with_byte 9 (text ∷ map (λ item. item_text item group) items) ≡ text ++ tabbed_items items group
joined-items text [] group = sym (append-nil text)
joined-items text (item ∷ items) group = ap (λ l. text ++ 9 ∷ l) (joined-items (item_text item group) items group)

pub line-put : (names : Option UserTables) (agg : Agg) (above : ℕ) (group : Group) (key : AggKey) (items : List Item) (old keyed listed new : List ℕ) → key ≡ agg.key → items ≡ agg.items
    → keyed ≡ old ++ key_text names key above group.key → listed ≡ keyed ++ tabbed_items items group → new ≡ listed ++ 10 ∷ [] → new ≡ old ++ group_line names agg above group
line-put names agg above group key items old keyed listed new same all first rest ended =
    let text = key_text names agg.key above group.key in
    let one : keyed ≡ old ++ text = first ∙ ap (λ k. old ++ key_text names k above group.key) same in
    let more : listed ≡ keyed ++ tabbed_items agg.items group = rest ∙ ap (λ l. keyed ++ tabbed_items l group) all in
    ended ∙ ap line (more ∙ ap (λ l. l ++ tabbed_items agg.items group) one ∙ append_assoc old text (tabbed_items agg.items group) ∙ ap (λ l. old ++ l) (sym (joined-items text agg.items group)))
    ∙ append_assoc old _ (10 ∷ [])
