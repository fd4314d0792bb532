-- The hints of a condition read to one formula.
use Rattle.std.specs.Prelude.{◌≡◌, Bool, true, false, ◌&&◌, pos, [], ◌∷◌, Option, Some, None, refl, if◌then◌else◌}
use Rattle.gufi_base.specs.Kinds.{read_kind}
use Rattle.gufi_base.specs.declared.record.Kind.{Kind as KindOf}
use Rattle.gufi_base.specs.declared.hint.Hint.{Hint}
use Rattle.gufi_base.specs.declared.hint.Hint.TheVariants as hints
use Rattle.gufi_formula.specs.Hints.{AreWhole}
use Rattle.gufi_formula.specs.Leaves.{is_leaf, tells, leaf_whole, turned_whole, sizes_leaf, times_leaf, uids_leaf, gids_leaf}
use Rattle.gufi_formula.specs.Ranges.{least_time, greatest_time}
use Rattle.gufi_select.specs.declared.column.Column.TheVariants.{Kind, Uid, Gid, Size, Mtime}
use Rattle.gufi_select.specs.declared.operator.Operator.TheVariants.{Equal, Unequal}
use Rattle.gufi_select.specs.declared.condition.Value.TheVariants.{Text, Number}
use Rattle.gufi_select.specs.declared.condition.Condition.{Condition}
use Rattle.gufi_select.specs.declared.condition.Condition.TheVariants.{Compares, Finds}
use Rattle.gufi_select.specs.ConditionHints.{ends, kind_leaf, leaf_of, is_turned, condition_hints}

kind_is_leaf : (kind : Option KindOf) → is_leaf (kind_leaf kind) ≡ true
kind_is_leaf None = refl
kind_is_leaf (Some kind) = refl

pub condition_leaf : (c : Condition) → is_leaf (leaf_of c) ≡ true
condition_leaf (Compares Size op (Number n)) = let e = ends (pos 0) (pos 18446744073709551615) op n in sizes_leaf e.first e.last
condition_leaf (Compares Mtime op (Number n)) = let e = ends least_time greatest_time op n in times_leaf e.first e.last
condition_leaf (Compares Uid op (Number n)) = let e = ends (pos 0) (pos 4294967295) op n in uids_leaf e.first e.last
condition_leaf (Compares Gid op (Number n)) = let e = ends (pos 0) (pos 4294967295) op n in gids_leaf e.first e.last
condition_leaf (Compares Kind Equal (Text text)) = kind_is_leaf (read_kind text)
condition_leaf (Compares Kind Unequal (Text text)) = kind_is_leaf (read_kind text)
condition_leaf (Compares column op (Number n)) = refl
condition_leaf (Compares column op (Text text)) = refl
condition_leaf Finds = refl

signed_whole : (turned : Bool) (hint : Hint) → is_leaf hint ≡ true → AreWhole (if turned then hint ∷ hints.Not ∷ [] else hint ∷ [])
signed_whole true hint leaf = turned_whole hint leaf
signed_whole false hint leaf = leaf_whole hint leaf

pub conditions_whole : (c : Condition) → AreWhole (condition_hints c)
conditions_whole c = signed_whole (is_turned c && tells (leaf_of c)) (leaf_of c) (condition_leaf c)
