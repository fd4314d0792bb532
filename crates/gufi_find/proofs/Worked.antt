-- Expressions worked by hand.
use Rattle.std.proofs.Common.{◌≡◌, ℕ, [], ◌∷◌, refl, Bool, true, false}
use Rattle.std.specs.Prelude.{None, Ok, Err, codes, Result, replicate, pos, map}
use Rattle.gufi_base.specs.declared.record.Row.{Row}
use Rattle.gufi_base.specs.declared.record.Kind.TheVariants.{Dir, File}
use Rattle.gufi_users.specs.Entries.{UserTables}
use Rattle.gufi_formula.specs.Formulas.{test, negation, both, either}
use Rattle.gufi_find.specs.declared.fault.FindError.{FindError}
use Rattle.gufi_find.specs.declared.fault.FindError.TheVariants.{Fault}
use Rattle.gufi_find.specs.declared.fault.FindKind.TheVariants.{MissingArgument, BadNumber, Parenthesis, TooDeep, NoNow}
use Rattle.gufi_find.specs.declared.test.Test.TheVariants.{KindIs, Always}
use Rattle.gufi_find.specs.Expressions.{Find, find_holds}
use Rattle.gufi_find.specs.Operands.{read_operand, primary_named, primary_of}
use Rattle.gufi_find.specs.Reading.{read_find, read_find_words, wants_primary, wants_operator}

abbrev none : UserTables
none = record { users = []; groups = [] }

file : ℕ → Row
file size = record {
  path = codes "b" ∷ [];
  rec = record { meta = record { kind = File; inode = 1; mode = 420; nlink = 1; uid = 101; gid = 100; size = size; blksize = 4096; blocks = 0; atime = pos 10; mtime = pos 20; ctime = pos 30 }; link = []; xattrs = []; acl = [] };
}

abbrev found : Result Find FindError → Row → Bool
found (Ok f) row = find_holds f row 1
found (Err e) row = false

-- sizes 0, 1, 512, 513
sizes_equal : map (λ size. found (read_find (codes "-size" ∷ codes "1" ∷ []) none None) (file size)) (0 ∷ 1 ∷ 512 ∷ 513 ∷ []) ≡ false ∷ true ∷ true ∷ false ∷ []
unfolding read_find read_find_words wants_primary wants_operator read_operand primary_named primary_of file
sizes_equal = refl

sizes_below : map (λ size. found (read_find (codes "-size" ∷ codes "-1" ∷ []) none None) (file size)) (0 ∷ 1 ∷ 512 ∷ 513 ∷ []) ≡ true ∷ false ∷ false ∷ false ∷ []
unfolding read_find read_find_words wants_primary wants_operator read_operand primary_named primary_of file
sizes_below = refl

missing_argument : read_find (codes "-name" ∷ []) none None ≡ Err (Fault 2 MissingArgument)
unfolding read_find read_find_words wants_primary wants_operator read_operand primary_named primary_of
missing_argument = refl

bad_number : read_find (codes "-size" ∷ codes "1x" ∷ []) none None ≡ Err (Fault 2 BadNumber)
unfolding read_find read_find_words wants_primary wants_operator read_operand primary_named primary_of
bad_number = refl

precedence : read_find (codes "!" ∷ codes "-type" ∷ codes "f" ∷ codes "-type" ∷ codes "d" ∷ codes "-o" ∷ codes "(" ∷ codes "-type" ∷ codes "d" ∷ codes ")" ∷ []) none None
    ≡ Ok (record { expr = either (both (negation (test (KindIs File))) (test (KindIs Dir))) (test (KindIs Dir)); least_depth = 0; most_depth = None })
unfolding read_find read_find_words wants_primary wants_operator read_operand primary_named primary_of
precedence = refl

open_one : read_find (codes "(" ∷ codes "-type" ∷ codes "f" ∷ []) none None ≡ Err (Fault 4 Parenthesis)
unfolding read_find read_find_words wants_primary wants_operator read_operand primary_named primary_of
open_one = refl

no_now : read_find (codes "-atime" ∷ []) none None ≡ Err (Fault 1 NoNow)
unfolding read_find read_find_words wants_primary wants_operator read_operand primary_named primary_of
no_now = refl

deep : read_find (replicate 65 (codes "!")) none None ≡ Err (Fault 65 TooDeep)
unfolding read_find read_find_words wants_primary wants_operator read_operand primary_named primary_of
deep = refl

no_words : read_find [] none None ≡ Ok (record { expr = test Always; least_depth = 0; most_depth = None })
unfolding read_find read_find_words
no_words = refl
