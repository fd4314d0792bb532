-- Traces at worked values.
use Rattle.std.proofs.Common.{◌≡◌, ℕ, List, [], ◌∷◌, ◌++◌, refl}
use Rattle.std.specs.Prelude.{Ok, Err, pos, codes, replicate, Result}
use Rattle.std.specs.Fmt.{digits}
use Rattle.gufi_base.specs.declared.record.Meta.{Meta}
use Rattle.gufi_base.specs.declared.record.Kind.{Kind}
use Rattle.gufi_base.specs.declared.record.Kind.TheVariants.{Dir, File}
use Rattle.gufi_base.specs.Paths.{read_path}
use Rattle.gufi_tree.specs.Tree.{Directory}
use Rattle.gufi_tree.specs.Build.{tree_of}
use Rattle.gufi_access.specs.Acl.{entries, ascends_after, count_of}
use Rattle.gufi_acl.specs.AclTexts.{read_bits, entry_in, all_entries, acl_of_text, acl_text}
use Rattle.gufi_line.specs.AttributeField.{xattrs_of}
use Rattle.gufi_line.specs.AclField.{acl_field}
use Rattle.gufi_line.specs.LineText.{read_line, read_lines, read_meta, read_line_path}
use Rattle.gufi_trace.specs.TraceText.{trace_means, trace_lines, TraceFailure, failure_text}
use Rattle.gufi_trace.specs.TraceWriting.{trace_text}

abbrev a1 : List ℕ
a1 = codes "/r|d|1|493|2|101|100|4096|4096|8|10|20|30|\n"

abbrev b_text : List ℕ
b_text = codes "/r|d|1|493|3|101|100|4096|4096|8|10|20|30|\n/r/c|d|2|45|2|102|200|4096|4096|8|10|22|30|\n/r/c/x|f|3|420|1|102|200|7|4096|8|10|21|30|\n"

abbrev meta : Kind → ℕ → ℕ → ℕ → ℕ → ℕ → ℕ → ℕ → ℕ → Meta
meta kind inode mode nlink uid gid size blocks mtime = record { kind = kind; inode = inode; mode = mode; nlink = nlink; uid = uid; gid = gid; size = size; blksize = 4096; blocks = blocks; atime = pos 10; mtime = pos mtime; ctime = pos 30 }

abbrev tree_a : List Directory
tree_a = record { path = []; rec = record { meta = meta Dir 1 493 2 101 100 4096 8 20; link = []; xattrs = []; acl = [] }; entries = [] } ∷ []

abbrev tree_b : List Directory
tree_b =
    record { path = []; rec = record { meta = meta Dir 1 493 3 101 100 4096 8 20; link = []; xattrs = []; acl = [] }; entries = [] }
    ∷ record {
      path = codes "c" ∷ [];
      rec = record { meta = meta Dir 2 45 2 102 200 4096 8 22; link = []; xattrs = []; acl = [] };
      entries = record { name = codes "x"; rec = record { meta = meta File 3 420 1 102 200 7 8 21; link = []; xattrs = []; acl = [] } } ∷ [];
    }
    ∷ []

one_directory : trace_means 124 a1 ≡ Ok tree_a
unfolding trace_means trace_lines read_lines read_line read_line_path read_meta xattrs_of acl_field read_path tree_of
one_directory = refl

entry_of_a_directory : trace_means 124 b_text ≡ Ok tree_b
unfolding trace_means trace_lines read_lines read_line read_line_path read_meta xattrs_of acl_field read_path tree_of
entry_of_a_directory = refl

two_bad_lines : List ℕ
two_bad_lines = a1 ++ codes "/r/a|f|2|420|1|101|100|0|4096|0|10|20|30|\n/r/b|f|2|420|1|101|100|0|4096|0|10|20|30|\n/r/c|f|2|420|1|101|100|0|4096|0|10|20|30\n/r/d|f|2|420|1|101|100|0|4096|0|10|20|30|\n/r/d|f|2|420|x|101|100|0|4096|0|10|20|30|\n"

abbrev failure : Result (List Directory) TraceFailure → List ℕ
failure (Ok tree) = []
failure (Err d) = failure_text d

least_bad_line : failure (trace_means 124 two_bad_lines) ≡ codes "4 Short"
unfolding trace_means trace_lines read_lines read_line read_line_path read_meta xattrs_of acl_field read_path tree_of two_bad_lines digits
least_bad_line = refl

d1 : List ℕ
d1 = codes "/r|d|1|493|3|101|100|4096|4096|8|10|20|30|\n"

d2 : List ℕ
d2 = codes "/r/a|d|2|493|3|101|100|4096|4096|8|10|20|30|\n"

d3 : List ℕ
d3 = codes "/r/a/b|d|3|493|2|101|100|4096|4096|8|10|20|30|\n"

stanzas_in_any_order : trace_means 124 (d1 ++ d3 ++ d2) ≡ trace_means 124 (d1 ++ d2 ++ d3)
unfolding trace_means trace_lines read_lines read_line read_line_path read_meta xattrs_of acl_field read_path tree_of d1 d2 d3
stanzas_in_any_order = refl

line_twice : failure (trace_means 124 (d1 ++ d2 ++ d2 ++ d3)) ≡ codes "3 Duplicate"
unfolding trace_means trace_lines read_lines read_line read_line_path read_meta xattrs_of acl_field read_path tree_of d1 d2 d3 digits
line_twice = refl

cut_line_is_named : failure (trace_means 124 (codes "/r|d|1|493|2|101|100|4096|4096|8|10|20|30|")) ≡ codes "1 CutLine"
unfolding trace_means trace_lines read_lines read_line read_line_path read_meta xattrs_of acl_field read_path tree_of digits
cut_line_is_named = refl

orphan_is_named : failure (trace_means 124 (d1 ++ d3)) ≡ codes "2 Orphan"
unfolding trace_means trace_lines read_lines read_line read_line_path read_meta xattrs_of acl_field read_path tree_of d1 d3 digits
orphan_is_named = refl

no_lines : failure (trace_means 124 []) ≡ codes "0 NoRoot"
unfolding trace_means trace_lines read_lines read_line read_line_path read_meta xattrs_of acl_field read_path tree_of
no_lines = refl

bad_size_is_named : failure (trace_means 124 (a1 ++ codes "/r/w|f|1|493|2|101|100|x|4096|8|10|20|30|\n")) ≡ codes "2 BadNumber 8"
unfolding trace_means trace_lines read_lines read_line read_line_path read_meta xattrs_of acl_field read_path tree_of digits
bad_size_is_named = refl

written : trace_text tree_b (codes "r" ∷ []) 124 ≡ b_text
unfolding digits
written = refl

x_line : List ℕ
x_line = codes "/r/x|f|2|256|1|101|100|0|4096|0|10|20|30|"

abbrev tree_x : List ℕ → List ℕ → List Directory
tree_x names acl =
    record {
      path = [];
      rec = record { meta = meta Dir 1 493 2 101 100 4096 8 20; link = []; xattrs = []; acl = [] };
      entries = record { name = codes "x"; rec = record { meta = meta File 2 256 1 101 100 0 0 20; link = []; xattrs = names; acl = acl } } ∷ [];
    }
    ∷ []

names_are_joined : trace_means 124 (a1 ++ x_line ++ codes "|xattrs/,user.a,,user.b\n") ≡ Ok (tree_x (codes "user.a,user.b") [])
unfolding trace_means trace_lines read_lines read_line read_line_path read_meta xattrs_of acl_field read_path tree_of x_line
names_are_joined = refl

other_fields_are_skipped : trace_means 124 (a1 ++ x_line ++ codes "|xattr/a|xattrs/b|acl/\n") ≡ Ok (tree_x [] [])
unfolding trace_means trace_lines read_lines read_line read_line_path read_meta xattrs_of acl_field read_path tree_of x_line
other_fields_are_skipped = refl

long_name_is_bad : failure (trace_means 124 (a1 ++ x_line ++ codes "|xattrs/" ++ replicate 256 97 ++ 10 ∷ [])) ≡ codes "2 BadXattr"
unfolding trace_means trace_lines read_lines read_line read_line_path read_meta xattrs_of acl_field read_path tree_of x_line digits
long_name_is_bad = refl

names_are_written : trace_text (tree_x (codes "user.a,user.b") []) (codes "r" ∷ []) 124 ≡ a1 ++ x_line ++ codes "|xattrs/user.a,user.b\n"
unfolding digits x_line
names_are_written = refl

-- the owner, user 7, the owning group, the mask and the others
abbrev list_x : List ℕ
list_x = 0 ∷ 4 ∷ 0 ∷ 0 ∷ 0 ∷ 0 ∷ 1 ∷ 6 ∷ 7 ∷ 0 ∷ 0 ∷ 0 ∷ 2 ∷ 0 ∷ 0 ∷ 0 ∷ 0 ∷ 0 ∷ 4 ∷ 6 ∷ 0 ∷ 0 ∷ 0 ∷ 0 ∷ 5 ∷ 0 ∷ 0 ∷ 0 ∷ 0 ∷ 0 ∷ []

list_is_read : trace_means 124 (a1 ++ x_line ++ codes "||acl/o::---,u:07:rw-,user::r--,g::---,m::rw-|more\n") ≡ Ok (tree_x [] list_x)
unfolding trace_means trace_lines read_lines read_line read_line_path read_meta xattrs_of acl_field acl_of_text all_entries entry_in read_bits ascends_after count_of read_path tree_of x_line
list_is_read = refl

bad_list_is_named : failure (trace_means 124 (a1 ++ x_line ++ codes "||acl/u::r--,g::---\n")) ≡ codes "2 BadAcl"
unfolding trace_means trace_lines read_lines read_line read_line_path read_meta xattrs_of acl_field acl_of_text all_entries entry_in read_bits ascends_after count_of read_path tree_of x_line digits
bad_list_is_named = refl

list_is_written : trace_text (tree_x [] list_x) (codes "r" ∷ []) 124 ≡ a1 ++ x_line ++ codes "||acl/user::r--,user:7:rw-,group::---,mask::rw-,other::---\n"
unfolding digits x_line acl_text entries
list_is_written = refl
