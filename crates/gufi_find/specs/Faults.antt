-- The faults of a word, as they are printed.
use Rattle.std.specs.Prelude.{ℕ, List, codes}
use Rattle.gufi_find.specs.declared.fault.FindKind.{FindKind}
use Rattle.gufi_find.specs.declared.fault.FindKind.TheVariants.{UnknownPrimary, MissingArgument, BadNumber, BadPattern, BadType, UnknownUser, UnknownGroup, Parenthesis, TooDeep, NoNow}

abbrev pub find_kind_text : FindKind → List ℕ
find_kind_text UnknownPrimary = codes "UnknownPrimary"
find_kind_text MissingArgument = codes "MissingArgument"
find_kind_text BadNumber = codes "BadNumber"
find_kind_text BadPattern = codes "BadPattern"
find_kind_text BadType = codes "BadType"
find_kind_text UnknownUser = codes "UnknownUser"
find_kind_text UnknownGroup = codes "UnknownGroup"
find_kind_text Parenthesis = codes "Parenthesis"
find_kind_text TooDeep = codes "TooDeep"
find_kind_text NoNow = codes "NoNow"
