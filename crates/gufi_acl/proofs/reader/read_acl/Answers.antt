use Rattle.std.proofs.Common.{◌≡◌, ℕ, List, Option, Some, None, sym, ap, ◌∙◌, subst, drop, Vec, Global}
use Rattle.std.specs.Prelude.{option_map}
use Rattle.gufi_base.specs.Basics.{split, GivesUnless}
use Rattle.gufi_access.specs.declared.acl.Entry.{Entry}
use Rattle.gufi_acl.specs.declared.AclFault.TheVariants.{Memory}
use Rattle.gufi_acl.specs.AclTexts.{all_entries, acl_of_entries}
use Rattle.gufi_acl.proofs.Order.{sorted_alike}
use Rattle.gufi_acl.proofs.Read.{entries_good, all_small}
use Rattle.gufi_acl.proofs.Texts.{text_none, text_bad, text_entries}
use Rattle.gufi_acl.proofs.reader.read_acl.Goals as goal

pub returns-then-is_empty : goal.returns-then-is_empty
returns-then-is_empty c = text_none c.args.text.now (sym c.if-is_empty.true ∙ c.is_empty.ensures) ∙ cc

abbrev kept : Option (Vec Entry Global) → Option (List Entry)
kept o = option_map (λ (v : Vec Entry Global). v.items) o

pub returns-in_default : goal.returns-in_default
returns-in_default c = λ other.
    let texts : List (List ℕ) = split 44 (drop 4 c.args.text.now) in
    let read = c.in_ok-entries.ensures ∙ ap (λ (t : List ℕ). all_entries (split 44 t)) c.behind.ensures in
    let none : None ≡ all_entries texts = sym (ap kept c.in_default.is) ∙ read in
    text_bad c.args.text.now (sym c.if-is_empty.false ∙ c.is_empty.ensures) none

pub returns : goal.returns
returns c =
    let es : List Entry = c.in-Some.entries.items in
    let texts : List (List ℕ) = split 44 (drop 4 c.args.text.now) in
    let read = c.in_ok-entries.ensures ∙ ap (λ (t : List ℕ). all_entries (split 44 t)) c.behind.ensures in
    let some : Some es ≡ all_entries texts = sym (ap kept c.in-Some.is) ∙ read in
    let small = all_small es (entries_good texts es (sym some)) in
    let sorted = sorted_alike es c.sort_entries.new.entries.items small c.sort_entries.ensures.same c.sort_entries.ensures.sorted in
    let spelt = text_entries c.args.text.now es (sym c.if-is_empty.false ∙ c.is_empty.ensures) some in
    subst (GivesUnless Memory c.acl_of.result) (ap acl_of_entries c.as_slice.ensures.value ∙ sorted ∙ sym spelt) c.acl_of.ensures
