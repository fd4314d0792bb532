-- Queries worked by hand.
use Rattle.std.proofs.Common.{◌≡◌, [], ◌∷◌, refl}
use Rattle.std.specs.Prelude.{None, Some, Ok, Err, codes, pos, negsuc}
use Rattle.std.specs.Str.{is_utf8, chars}
use lib.Utf8.{encode}
use Rattle.regex_syntax.specs.Grammar.{read, join_parts, branches, item, opening, capture}
use Rattle.regex_syntax.specs.Reading.{skip, first}
use Rattle.gufi_formula.specs.Formulas.{test, negation, both, either}
use Rattle.gufi_select.specs.declared.column.Column.TheVariants.{Path, Name, Size, Uid, Mtime, Xattrs}
use Rattle.gufi_select.specs.declared.column.Table.TheVariants.{Entries, Rows}
use Rattle.gufi_select.specs.declared.condition.Condition.TheVariants.{Compares}
use Rattle.gufi_select.specs.declared.condition.Value.TheVariants.{Text, Number}
use Rattle.gufi_select.specs.declared.operator.Operator.TheVariants.{Above, Equal, Unequal, Below}
use Rattle.gufi_select.specs.declared.fault.SelectKind.TheVariants.{Unexpected, UnknownColumn, WrongType, LiteralTooBig, OpenText, BadRegex}
use Rattle.gufi_select.specs.declared.fault.SelectError.TheVariants.{Fault}
use Rattle.gufi_select.specs.Reading.{read_select, read_tokens}

large_files : read_select (codes "SELECT path, size FROM entries WHERE size > 5")
    ≡ Ok (record { columns = Path ∷ Size ∷ []; table = Entries; regexp = None; condition = Some (test (Compares Size Above (Number (pos 5)))) })
unfolding read_select read_tokens
large_files = refl

unknown_column : read_select (codes "SELECT nope FROM rows") ≡ Err (Fault 7 UnknownColumn)
unfolding read_select read_tokens
unknown_column = refl

-- NOT binds most, AND more than OR
precedence : read_select (codes "select path from rows where not uid=1 and mtime<-5 or path='it''s';")
    ≡ Ok (record { columns = Path ∷ []; table = Rows; regexp = None; condition = Some (either (both (negation (test (Compares Uid Equal (Number (pos 1))))) (test (Compares Mtime Below (Number (negsuc 4))))) (test (Compares Path Equal (Text (codes "it's"))))) })
unfolding read_select read_tokens
precedence = refl

attributes_named : read_select (codes "SELECT name, xattrs FROM rows WHERE XATTRS <> ''")
    ≡ Ok (record { columns = Name ∷ Xattrs ∷ []; table = Rows; regexp = None; condition = Some (test (Compares Xattrs Unequal (Text []))) })
unfolding read_select read_tokens
attributes_named = refl

wrong_type : read_select (codes "SELECT * FROM rows WHERE path = -5") ≡ Err (Fault 32 WrongType)
unfolding read_select read_tokens
wrong_type = refl

open_text : read_select (codes "SELECT * FROM rows WHERE path = 'x") ≡ Err (Fault 32 OpenText)
unfolding read_select read_tokens
open_text = refl

too_early : read_select (codes "SELECT * FROM rows WHERE (uid = 5") ≡ Err (Fault 33 Unexpected)
unfolding read_select read_tokens
too_early = refl

bad_pattern : read_select (codes "SELECT name FROM rows WHERE name REGEXP '('") ≡ Err (Fault 40 BadRegex)
unfolding read_select read_tokens is_utf8 chars encode read join_parts branches item opening capture skip first
bad_pattern = refl

big_digits : read_select (codes "SELECT name FROM rows WHERE size = -99999999999999999999") ≡ Err (Fault 36 LiteralTooBig)
unfolding read_select read_tokens
big_digits = refl
