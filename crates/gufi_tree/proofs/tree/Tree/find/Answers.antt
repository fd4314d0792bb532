use Rattle.std.proofs.Common.{List, sym, ap, ◌∙◌, subst, Option, Some, None, ℕ}
use Rattle.std.specs.Prelude.{option_map}
use Rattle.gufi_base.specs.PathTexts.{IsText, names}
use Rattle.gufi_base.proofs.Names.{IsText-kept_text}
use Rattle.gufi_tree.specs.Tree.{Directory, place_of}
use Rattle.gufi_tree.specs.Places.{dir_id}
use Rattle.gufi_tree.proofs.Linked.{found_place}
use Rattle.gufi_tree.proofs.tree.Tree.find.Goals as goal

pub find_dir-requires-clause-text : goal.find_dir-requires-clause-text
find_dir-requires-clause-text c = subst IsText (sym c.text.ensures.text) (IsText-kept_text c.args.path.now c.text.ensures.names)

pub returns-in-None : goal.returns-in-None
returns-in-None c =
    ap (λ (o : Option ℕ). option_map dir_id o) (found_place c.args.self.now c.args.path.now c.text.result.now None c.text.ensures.text c.text.ensures.names (c.in-None.ensures ∙ ap (λ (t : List Directory). place_of t (names c.text.result.now)) c.kept.ensures.value))

pub returns-in-Some : goal.returns-in-Some
returns-in-Some c =
    ap (λ (o : Option ℕ). option_map dir_id o) (found_place c.args.self.now c.args.path.now c.text.result.now (Some c.in-Some.place) c.text.ensures.text c.text.ensures.names (c.in-Some.ensures ∙ ap (λ (t : List Directory). place_of t (names c.text.result.now)) c.kept.ensures.value))
