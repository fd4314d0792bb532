-- Why the system failed, in words.
use Rattle.std.specs.Prelude.{ℕ, List, codes}
use Rattle.std.specs.declared.io.ErrorKind.{ErrorKind}
use Rattle.std.specs.declared.io.ErrorKind.TheVariants as kinds

abbrev pub error_words : ErrorKind → List ℕ
error_words kinds.NotFound = codes "no such file or directory"
error_words kinds.PermissionDenied = codes "permission denied"
error_words kinds.NotADirectory = codes "not a directory"
error_words kinds.IsADirectory = codes "is a directory"
error_words kinds.FilesystemLoop = codes "too many links lead to links"
error_words kinds.InvalidFilename = codes "the name is too long"
error_words kinds.InvalidInput = codes "the name has a byte that no name may have"
error_words kinds.StaleNetworkFileHandle = codes "the file was removed on its server"
error_words kinds.ResourceBusy = codes "busy"
error_words kinds.TimedOut = codes "timed out"
error_words kinds.Interrupted = codes "interrupted"
error_words kinds.OutOfMemory = codes "no memory"
error_words kind = codes "input or output failed"
