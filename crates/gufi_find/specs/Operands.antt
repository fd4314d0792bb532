-- The primaries, their arguments, and the faults of these.
use Rattle.std.specs.Prelude.{ℕ, Bool, false, ◌==◌, List, [], ◌∷◌, map, drop, Option, Some, None, option_map, Result, ok_or, if◌then◌else◌, ℤ, bytes_eq, codes}
use Rattle.std.specs.Option.{option_or}
use Rattle.std.specs.Result.{result_ok}
use Rattle.gufi_base.specs.Basics.{all_but_last, last_of, distinct}
use Rattle.gufi_base.specs.Numbers.{read_u32, read_u64, read_octal}
use Rattle.gufi_base.specs.Kinds.{read_kind}
use Rattle.gufi_users.specs.Entries.{UserTables, PasswdEntry, GroupEntry}
use Rattle.gufi_users.specs.Users.{uid_of, gid_of}
use Rattle.gufi_glob.specs.Patterns.{read_pattern}
use Rattle.gufi_find.specs.declared.fault.FindKind.{FindKind}
use Rattle.gufi_find.specs.declared.fault.FindKind.TheVariants.{BadNumber, BadPattern, BadType, UnknownUser, UnknownGroup}
use Rattle.gufi_find.specs.declared.comparison.Comparison.{Comparison}
use Rattle.gufi_find.specs.declared.comparison.Comparison.TheVariants.{EqualTo, MoreThan, LessThan}
use Rattle.gufi_find.specs.declared.comparison.SizeUnit.{SizeUnit}
use Rattle.gufi_find.specs.declared.comparison.SizeUnit.TheVariants.{Bytes, Blocks, Kibibytes, Mebibytes, Gibibytes}
use Rattle.gufi_find.specs.declared.test.Test.{Test}
use Rattle.gufi_find.specs.declared.test.Test.TheVariants as tests
use Rattle.gufi_find.specs.declared.operand.Operand.{Operand}
use Rattle.gufi_find.specs.declared.operand.Operand.TheVariants as operands
use Rattle.gufi_find.specs.declared.operand.Item.{Item}
use Rattle.gufi_find.specs.declared.operand.Item.TheVariants as items
use Rattle.gufi_find.specs.declared.primary.Primary.{Primary}
use Rattle.gufi_find.specs.declared.primary.Primary.TheVariants.{Alone, Taking, WithoutNow}
use Rattle.gufi_find.specs.declared.primary.PrimaryName.{PrimaryName}
use Rattle.gufi_find.specs.declared.primary.PrimaryName.TheVariants as names

-- ---- arguments

abbrev pub begins_with : ℕ → List ℕ → Bool
begins_with b [] = false
begins_with b (c ∷ rest) = c == b

abbrev pub read_comparison : List ℕ → Option Comparison
read_comparison word =
    if begins_with 43 word then option_map MoreThan (read_u64 (drop 1 word))
    else if begins_with 45 word then option_map LessThan (read_u64 (drop 1 word))
    else option_map EqualTo (read_u64 word)

-- the unit that a last letter of a size names: c b k M G
abbrev pub unit_of : ℕ → Option SizeUnit
unit_of c =
    if c == 99 then Some Bytes else if c == 98 then Some Blocks else if c == 107 then Some Kibibytes
    else if c == 77 then Some Mebibytes else if c == 71 then Some Gibibytes else None

abbrev pub size_with : Option SizeUnit → List ℕ → Option Test
size_with None word = option_map (tests.SizeIs Blocks) (read_comparison word)
size_with (Some unit) word = option_map (tests.SizeIs unit) (read_comparison (all_but_last word))

abbrev pub read_size : List ℕ → Option Test
read_size word = size_with (unit_of (last_of 0 word)) word

abbrev pub read_mode : List ℕ → Option Test
read_mode word =
    if begins_with 45 word then option_map tests.ModeHas (read_octal (drop 1 word)) else option_map tests.ModeIs (read_octal word)

abbrev pub as_test : FindKind → Option Test → Result Item FindKind
as_test fault given = ok_or (option_map items.OfTest given) fault

-- what an argument makes, or its fault
unfoldable pub read_operand : UserTables → Operand → List ℕ → Result Item FindKind
read_operand tables operands.Name word = as_test BadPattern (option_map tests.NameMatches (result_ok (read_pattern word)))
read_operand tables operands.Path word = as_test BadPattern (option_map tests.PathMatches (result_ok (read_pattern word)))
read_operand tables operands.Kind word = as_test BadType (option_map tests.KindIs (read_kind word))
read_operand tables operands.Size word = as_test BadNumber (read_size word)
read_operand tables (operands.Atime now) word = as_test BadNumber (option_map (tests.AtimeIs now) (read_comparison word))
read_operand tables (operands.Mtime now) word = as_test BadNumber (option_map (tests.MtimeIs now) (read_comparison word))
read_operand tables (operands.Ctime now) word = as_test BadNumber (option_map (tests.CtimeIs now) (read_comparison word))
read_operand tables operands.Links word = as_test BadNumber (option_map tests.LinksAre (read_comparison word))
read_operand tables operands.Mode word = as_test BadNumber (read_mode word)
read_operand tables operands.User word = as_test UnknownUser (option_map tests.UserIs (option_or (uid_of tables word) (read_u32 word)))
read_operand tables operands.Group word = as_test UnknownGroup (option_map tests.GroupIs (option_or (gid_of tables word) (read_u32 word)))
read_operand tables operands.LeastDepth word = ok_or (option_map items.LeastDepth (read_u32 word)) BadNumber
read_operand tables operands.MostDepth word = ok_or (option_map items.MostDepth (read_u32 word)) BadNumber

-- ---- primaries

-- what each word that begins a primary names
unfoldable pub primary_named : List ℕ → Option PrimaryName
primary_named word =
    if bytes_eq word (codes "-name") then Some names.Name
    else if bytes_eq word (codes "-path") then Some names.Path
    else if bytes_eq word (codes "-type") then Some names.Kind
    else if bytes_eq word (codes "-size") then Some names.Size
    else if bytes_eq word (codes "-atime") then Some names.Atime
    else if bytes_eq word (codes "-mtime") then Some names.Mtime
    else if bytes_eq word (codes "-ctime") then Some names.Ctime
    else if bytes_eq word (codes "-links") then Some names.Links
    else if bytes_eq word (codes "-perm") then Some names.Perm
    else if bytes_eq word (codes "-user") then Some names.User
    else if bytes_eq word (codes "-group") then Some names.Group
    else if bytes_eq word (codes "-nouser") then Some names.NoUser
    else if bytes_eq word (codes "-nogroup") then Some names.NoGroup
    else if bytes_eq word (codes "-mindepth") then Some names.MinDepth
    else if bytes_eq word (codes "-maxdepth") then Some names.MaxDepth
    else None

-- a test of times can't be judged without a moment
abbrev pub time_primary : Option ℤ → (ℤ → Operand) → Primary
time_primary None make = WithoutNow
time_primary (Some now) make = Taking (make now)

-- what a primary wants. -nouser and -nogroup keep the numbers that have a name.
unfoldable pub primary_of : UserTables → Option ℤ → PrimaryName → Primary
primary_of tables now names.Name = Taking operands.Name
primary_of tables now names.Path = Taking operands.Path
primary_of tables now names.Kind = Taking operands.Kind
primary_of tables now names.Size = Taking operands.Size
primary_of tables now names.Atime = time_primary now operands.Atime
primary_of tables now names.Mtime = time_primary now operands.Mtime
primary_of tables now names.Ctime = time_primary now operands.Ctime
primary_of tables now names.Links = Taking operands.Links
primary_of tables now names.Perm = Taking operands.Mode
primary_of tables now names.User = Taking operands.User
primary_of tables now names.Group = Taking operands.Group
primary_of tables now names.NoUser = Alone (tests.UserNotIn (distinct (map (λ (user : PasswdEntry). user.uid) tables.users)))
primary_of tables now names.NoGroup = Alone (tests.GroupNotIn (distinct (map (λ (entry : GroupEntry). entry.gid) tables.groups)))
primary_of tables now names.MinDepth = Taking operands.LeastDepth
primary_of tables now names.MaxDepth = Taking operands.MostDepth
