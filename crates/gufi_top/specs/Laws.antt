-- Laws of what the commands come to. A public function's contract has to name each.
use Rattle.std.specs.Prelude.{◌≡◌, ◌≤◌, ◌<◌, ◌^◌, ℕ, ℤ, Bool, not, ◌||◌, IsTrue, List, [], ◌++◌, length, filter, Option, Some, None, is_ok, Ok}
use Rattle.std.specs.List.{flat_map, list_all}
use Rattle.gufi_io.specs.Files.{Files}
use Rattle.gufi_base.specs.Basics.{is_empty, line}
use Rattle.gufi_base.specs.Delimiters.{may_delimit}
use Rattle.gufi_base.specs.Paths.{Components, is_too_long, slashed_text}
use Rattle.gufi_base.specs.Rows.{are_bytes, depth_below}
use Rattle.gufi_rows.specs.PathLines.{path_lines}
use Rattle.gufi_access.specs.declared.class.Principal.{Principal}
use Rattle.gufi_access.specs.Access.{principal}
use Rattle.gufi_tree.specs.Tree.{Directory, own_rows, has_dir, is_too_large}
use Rattle.gufi_tree.specs.Graft.{graft, is_too_deep}
use Rattle.gufi_tree.specs.Resolve.{resolve, is_found}
use Rattle.gufi_snap.specs.Snap.{Snap}
use Rattle.gufi_users.specs.Entries.{UserTables}
use Rattle.gufi_users.specs.Users.{principal_of}
use Rattle.gufi_find.specs.Expressions.{Find, find_holds}
use Rattle.gufi_find.specs.Reading.{read_find}
use Rattle.gufi_walk.specs.Answer.{listed_rows, Alike}
use Rattle.gufi_diff.specs.Changes.{diff_lines}
use Rattle.gufi_trace.specs.TraceText.{trace_means}
use Rattle.gufi_trace.specs.TraceTrees.{trace_root}
use Rattle.gufi_trace.specs.TraceWriting.{written_trace}
use Rattle.gufi_image.specs.Image.{image_text}
use Rattle.gufi_image.specs.Reading.{image_means}
use Rattle.gufi_words.specs.CommandWords.{read_words}
use Rattle.gufi_words.specs.declared.command.Common.{Common}
use Rattle.gufi_words.specs.declared.command.Command.{Command}
use Rattle.gufi_words.specs.declared.command.Command.TheVariants as commands
use Rattle.gufi_top.specs.Reasons.{tables_in, trace_in, index_in}
use Rattle.gufi_top.specs.Verdict.{writes_only, command_over, verdict}
use Rattle.gufi_top.specs.Complete.{IsAnswerable, IsAnswered}

-- `walk` writes, in path order, a line for each row of the tree that its trace means whose directory the user lists by walking from the root.
abbrev pub WalkWritesTheListedRows : Type 0
WalkWritesTheListedRows = (words : List (List ℕ)) (files : Files) (trace : List ℕ) (uid : ℕ) (gids : List ℕ) (delim : ℕ) (tree : List Directory)
    → read_words words ≡ Ok (commands.Walk trace uid gids delim) → trace_in delim trace files ≡ Ok tree → IsTrue (is_found (resolve tree (principal uid gids) []))
    → verdict words files ≡ writes_only (path_lines (listed_rows tree (principal uid gids) []))

-- `find` writes, in path order, a line for each row of the tree that its index means whose directory USER lists by walking from START and for which the expression is true.
abbrev pub FindWritesTheListedRows : Type 0
FindWritesTheListedRows = (words : List (List ℕ)) (files : Files) (common : Common) (now : Option ℤ) (tests : List (List ℕ)) (tables : UserTables) (snap : Snap) (who : Principal) (expression : Find)
    → read_words words ≡ Ok (commands.Find common now None tests) → tables_in common.passwd common.group files ≡ Ok tables → index_in common.delim common.limit common.index files ≡ Ok snap
    → principal_of tables common.user ≡ Some who → read_find tests tables now ≡ Ok expression → IsTrue (is_found (resolve snap.tree who common.start))
    → verdict words files ≡ writes_only (path_lines (filter (λ row. find_holds expression row (depth_below (length common.start) row)) (listed_rows snap.tree who common.start)))

-- `find --prefix` writes, in the same order, for each of these rows PREFIX and the path's text; for the root PREFIX alone.
abbrev pub FindWritesTheListedRowsBehindItsPrefix : Type 0
FindWritesTheListedRowsBehindItsPrefix = (words : List (List ℕ)) (files : Files) (common : Common) (now : Option ℤ) (prefix : List ℕ) (tests : List (List ℕ)) (tables : UserTables) (snap : Snap) (who : Principal) (expression : Find)
    → read_words words ≡ Ok (commands.Find common now (Some prefix) tests) → tables_in common.passwd common.group files ≡ Ok tables → index_in common.delim common.limit common.index files ≡ Ok snap
    → principal_of tables common.user ≡ Some who → read_find tests tables now ≡ Ok expression → IsTrue (is_found (resolve snap.tree who common.start))
    → verdict words files
    ≡ writes_only (flat_map (λ row. line (prefix ++ slashed_text row.path)) (filter (λ row. find_holds expression row (depth_below (length common.start) row)) (listed_rows snap.tree who common.start)))

-- `diff` writes, in path order, a line for each change from the rows that USER lists by walking from START in the tree that OLD means to those in the tree that NEW means, as they are shown to him.
abbrev pub DiffWritesTheChanges : Type 0
DiffWritesTheChanges = (words : List (List ℕ)) (files : Files) (old : List ℕ) (common : Common) (tables : UserTables) (before after : Snap) (who : Principal)
    → read_words words ≡ Ok (commands.Diff old common) → tables_in common.passwd common.group files ≡ Ok tables
    → index_in common.delim common.limit old files ≡ Ok before → index_in common.delim common.limit common.index files ≡ Ok after
    → principal_of tables common.user ≡ Some who → IsTrue (is_found (resolve before.tree who common.start)) → IsTrue (is_found (resolve after.tree who common.start))
    → verdict words files ≡ writes_only (diff_lines (listed_rows before.tree who common.start) (listed_rows after.tree who common.start))

-- To one who can't tell the trees of OLD in two sets of files apart by what he may list, nor those of NEW, `diff` comes to the same over both.
abbrev pub DiffsArePrivate : Type 0
DiffsArePrivate = (old : List ℕ) (common : Common) (files others : Files) (tables : UserTables) (before after before' after' : Snap) (who : Principal)
    → tables_in common.passwd common.group files ≡ Ok tables → tables_in common.passwd common.group others ≡ Ok tables → principal_of tables common.user ≡ Some who
    → index_in common.delim common.limit old files ≡ Ok before → index_in common.delim common.limit common.index files ≡ Ok after
    → index_in common.delim common.limit old others ≡ Ok before' → index_in common.delim common.limit common.index others ≡ Ok after'
    → Alike before.tree before'.tree who common.start → Alike after.tree after'.tree who common.start
    → command_over (commands.Diff old common) files ≡ command_over (commands.Diff old common) others

-- Where the files let a command be answered, nothing is refused: its verdict is a whole text, or a session that no file ends.
abbrev pub AnswerableCommandsAreAnswered : Type 0
AnswerableCommandsAreAnswered = (words : List (List ℕ)) (files : Files) (command : Command) → read_words words ≡ Ok command → IsAnswerable command files → IsAnswered (verdict words files)

-- `gen` of as many directories as its word may say, with whichever delimiter, writes their trace, or its summary.
abbrev pub GenIsNeverRefused : Type 0
GenIsNeverRefused = (n delim workers : ℕ) (summary : Bool) (files : Files) → 1 ≤ n → n ≤ 200000 → IsTrue (may_delimit delim) → IsTrue (is_ok (command_over (commands.Gen n delim workers summary) files))

-- What is written of a trace's tree as an image, under whichever limit, is read back to that tree and limit: where the trace begins
-- below `/`, or no path of the tree is too long.
abbrev pub TracesComeBackFromImages : Type 0
TracesComeBackFromImages = (delim : ℕ) (bytes : List ℕ) (tree : List Directory) (limit : ℕ) → IsTrue (are_bytes bytes) → trace_means delim bytes ≡ Ok tree
    → IsTrue (not (is_empty (trace_root delim bytes)) || list_all (λ row. not (is_too_long row.path)) (flat_map own_rows tree)) → limit < 2 ^ 64
    → image_means (image_text tree limit) ≡ Ok (record { tree = tree; limit = limit })

-- What `index2trace` writes of an index is read back to the index's tree, whichever limit the index is read under.
abbrev pub IndexesComeBackFromTraces : Type 0
IndexesComeBackFromTraces = (index : List ℕ) (delim limit : ℕ) (files : Files) (bytes : List ℕ) (snap : Snap) (text : List ℕ)
    → files index ≡ Some bytes → IsTrue (are_bytes bytes) → IsTrue (may_delimit delim) → index_in delim limit index files ≡ Ok snap
    → command_over (commands.Index2trace index delim) files ≡ writes_only text → trace_means delim text ≡ Ok snap.tree

-- The image of the trace of an image, under the image's limit, is the image, byte for byte.
abbrev pub ImagesComeBackFromTraces : Type 0
ImagesComeBackFromTraces = (delim : ℕ) (bytes : List ℕ) (snap : Snap) (text : List ℕ) (tree : List Directory) → IsTrue (are_bytes bytes) → IsTrue (may_delimit delim)
    → image_means bytes ≡ Ok snap → written_trace snap.tree [] delim ≡ Ok text → trace_means delim text ≡ Ok tree → image_text tree snap.limit ≡ bytes

-- `refresh` writes the image, under the limit that its words name, of the index's tree with the trace's in place of all at and below the path.
abbrev pub RefreshWritesTheImageOfItsTree : Type 0
RefreshWritesTheImageOfItsTree = (words : List (List ℕ)) (files : Files) (index : List ℕ) (delim limit : ℕ) (path : Components) (trace : List ℕ) (snap : Snap) (part : List Directory)
    → read_words words ≡ Ok (commands.Refresh index delim limit path trace) → index_in delim limit index files ≡ Ok snap → trace_in delim trace files ≡ Ok part
    → IsTrue (has_dir snap.tree path) → IsTrue (not (is_too_large (graft snap.tree path part))) → IsTrue (not (is_too_deep (graft snap.tree path part)))
    → verdict words files ≡ writes_only (image_text (graft snap.tree path part) limit)
