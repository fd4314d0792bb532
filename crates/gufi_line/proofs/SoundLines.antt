-- Lines that are seen to be sound.
use Rattle.std.proofs.Common.{◌≡◌, ℕ, ℤ, Bool, ◌+◌, ◌%◌, ◌<◌, ◌≤◌, leb, true, false, List, [], ◌∷◌, ◌++◌, length, Option, Some, None, Ok, refl, sym, ap, subst, ◌∙◌, arith}
use Rattle.std.specs.Prelude.{◌==◌, Result, Err, ok_or, IfOk, IfSome}
use Rattle.std.specs.List.{list_any}
use Rattle.std.specs.declared.alloc.AllocError.{AllocError}
use Rattle.std.proofs.lemmas.Bool.{cond-true, cond-false, le-ltb}
use Rattle.std.proofs.Math.Seq.{drop-append_seam}
use Rattle.gufi_base.specs.declared.record.Kind.{Kind}
use Rattle.gufi_base.specs.declared.record.Line.{Line}
use Rattle.gufi_base.specs.Limits.{max_dirs, max_entries, max_link}
use Rattle.gufi_base.specs.Basics.{split, part_at, ◌>>=◌, ◌>>◌, refuse}
use Rattle.gufi_base.specs.Numbers.{read_u32, read_u64, read_i64}
use Rattle.gufi_base.specs.Kinds.{is_dir, read_kind}
use Rattle.gufi_base.specs.Paths.{Components, read_path, is_prefix}
use Rattle.gufi_base.proofs.Below.{is_prefix-append}
use Rattle.gufi_tree.specs.StanzaLines.{stanza_holds}
use Rattle.gufi_line.specs.declared.fault.TraceKind.{TraceKind}
use Rattle.gufi_line.specs.declared.fault.TraceKind.TheVariants.{Short}
use Rattle.gufi_base.specs.declared.path.PathFault.{PathFault}
use Rattle.gufi_line.specs.declared.quick.Content.{Content}
use Rattle.gufi_line.specs.declared.lines.Progress.{Progress}
use Rattle.gufi_line.specs.AttributeField.{xattrs_of}
use Rattle.gufi_line.specs.AclField.{acl_field}
use Rattle.gufi_line.specs.Fields.{Texts, fields_of}
use Rattle.gufi_line.specs.Lines.{dirs_of, entries_of, place_fault, path_with_link, below_root, unless_fault, meta_in, line_in}
use Rattle.gufi_line.specs.Progress.{root_behind}
use Rattle.gufi_line.specs.Taken.{Takes, TakesMeta, TakesEnd, TakesContent, IsPlaced, IsSoundBehind, line_with, Adds, AddsListed, AddsNext}
use Rattle.gufi_line.proofs.LinesTaken.{progress_of}

-- a directory below the root
pub placed_directory : (root : Components) (earlier : List Line) (kind : Kind) (bytes : List ℕ) (names path : Components) → read_path bytes ≡ Ok (root ++ names) → path ≡ names → is_dir kind ≡ true → leb max_dirs (dirs_of earlier) ≡ false
    → IsPlaced root earlier kind bytes path
unfolding place_fault
placed_directory root earlier kind bytes names path e is dir few =
    record {
      reads = e ∙ ap (λ (p : Components). Ok (root ++ p)) (sym is);
      place = cond-true (is_dir kind) _ _ dir ∙ cond-false _ _ _ few;
    }

-- an entry of the directory of the stanza
pub placed_entry : (root : Components) (earlier : List Line) (kind : Kind) (bytes : List ℕ) (path : Components) → read_path bytes ≡ Ok (root ++ path) → stanza_holds earlier path ≡ true → is_dir kind ≡ false → leb max_entries (entries_of earlier) ≡ false
    → IsPlaced root earlier kind bytes path
unfolding place_fault
placed_entry root earlier kind bytes path e stanza_has entry few =
    record {
      reads = e;
      place = cond-false (is_dir kind) _ _ entry ∙ cond-true (stanza_holds earlier path) _ _ stanza_has ∙ cond-false _ _ _ few;
    }

step : {A B : Type 0} (r : Option A) (x : A) (kind : TraceKind) (f : A → Result B TraceKind) (out : Result B TraceKind) → r ≡ Some x → f x ≡ out → (ok_or r kind >>= f) ≡ out
step {A} r x kind f out e h = ap (λ (o : Option A). ok_or o kind >>= f) e ∙ h

behind : (old new later : List (List ℕ)) (field : List ℕ) → old ≡ field ∷ new → new ≡ later → old ≡ field ∷ later
behind old new later field e h = e ∙ ap (λ (ps : List (List ℕ)). field ∷ ps) h

pub taken_meta : (p0 p1 p2 p3 p4 p5 p6 p7 p8 p9 p10 p11 p12 : List (List ℕ)) (kind : Kind) (inode mode nlink uid gid size blksize blocks : ℕ) (atime mtime ctime : ℤ)
    → Takes Kind read_kind p0 p1 kind → Takes ℕ read_u64 p1 p2 inode → Takes ℕ read_u32 p2 p3 mode → Takes ℕ read_u64 p3 p4 nlink → Takes ℕ read_u32 p4 p5 uid → Takes ℕ read_u32 p5 p6 gid → Takes ℕ read_u64 p6 p7 size → Takes ℕ read_u64 p7 p8 blksize → Takes ℕ read_u64 p8 p9 blocks → Takes ℤ read_i64 p9 p10 atime → Takes ℤ read_i64 p10 p11 mtime → Takes ℤ read_i64 p11 p12 ctime
    → TakesMeta p0 p12 (record { kind = kind; inode = inode; mode = mode % 4096; nlink = nlink; uid = uid; gid = gid; size = size; blksize = blksize; blocks = blocks; atime = atime; mtime = mtime; ctime = ctime })
unfolding meta_in
taken_meta p0 p1 p2 p3 p4 p5 p6 p7 p8 p9 p10 p11 p12 kind inode mode nlink uid gid size blksize blocks atime mtime ctime a b c d e f g h i j k l =
    record {
      f = record {
        path = [];
        kind = a.field;
        inode = b.field;
        mode = c.field;
        nlink = d.field;
        uid = e.field;
        gid = f.field;
        size = g.field;
        blksize = h.field;
        blocks = i.field;
        atime = j.field;
        mtime = k.field;
        ctime = l.field;
        link = [];
        xattrs = [];
        acl = [];
      };
      is = behind _ _ _ _ a.is (behind _ _ _ _ b.is (behind _ _ _ _ c.is (behind _ _ _ _ d.is (behind _ _ _ _ e.is (behind _ _ _ _ f.is (behind _ _ _ _ g.is (behind _ _ _ _ h.is (behind _ _ _ _ i.is (behind _ _ _ _ j.is (behind _ _ _ _ k.is (l.is)))))))))));
      reads = step _ _ _ _ _ a.reads (step _ _ _ _ _ b.reads (step _ _ _ _ _ c.reads (step _ _ _ _ _ d.reads (step _ _ _ _ _ e.reads (step _ _ _ _ _ f.reads (step _ _ _ _ _ g.reads (step _ _ _ _ _ h.reads (step _ _ _ _ _ i.reads (step _ _ _ _ _ j.reads (step _ _ _ _ _ k.reads (step _ _ _ _ _ l.reads refl)))))))))));
    }

-- the path, the record, the link and the names of extended attributes of a line's parts
pub taken_content : (p0 p1 p2 p3 : List (List ℕ)) (content : Content) → p0 ≡ content.path.now ∷ p1 → TakesMeta p1 p2 content.meta → p2 ≡ content.link.now ∷ p3 → list_any (λ b. b == 0) content.link.now ≡ false → length content.link.now ≤ max_link → xattrs_of (part_at p3 1) ≡ Ok content.xattrs.now → part_at p3 2 ≡ content.acl.now → TakesContent p0 content
unfolding fields_of meta_in
taken_content p0 p1 p2 p3 content e m h no_zero short names list =
    record {
      f = record m.f { path = content.path.now; link = content.link.now; xattrs = part_at p3 1; acl = part_at p3 2 };
      fields = ap fields_of (e ∙ ap (λ (ps : List (List ℕ)). content.path.now ∷ ps) m.is ∙ ap (λ (ps : List (List ℕ)). content.path.now ∷ m.f.kind ∷ m.f.inode ∷ m.f.mode ∷ m.f.nlink ∷ m.f.uid ∷ m.f.gid ∷ m.f.size ∷ m.f.blksize ∷ m.f.blocks ∷ m.f.atime ∷ m.f.mtime ∷ m.f.ctime ∷ ps) h);
      path = refl;
      link = refl;
      meta = m.reads;
      no_zero = no_zero;
      short = short;
      xattrs = names;
      acl = list;
    }

-- the same where the end of a line is put behind the rest of it
content_ended : (p0 p1 p2 : List (List ℕ)) (old content : Content) → p0 ≡ old.path.now ∷ p1 → TakesMeta p1 p2 old.meta → TakesEnd p2 old content → TakesContent p0 content
content_ended p0 p1 p2 old content e m end =
    taken_content p0 p1 p2 end.behind content (e ∙ ap (λ (path : List ℕ). path ∷ p1) (sym end.path)) (subst (TakesMeta p1 p2) (sym end.meta) m) end.link end.no_zero end.short end.xattrs end.acl

pub ended_result : (given : Option (Unit {0})) (p0 p1 p2 : List (List ℕ)) (old content : Content) → p0 ≡ old.path.now ∷ p1 → TakesMeta p1 p2 old.meta → IfSome given (λ _. TakesEnd p2 old content) → IfSome given (λ _. TakesContent p0 content)
ended_result None p0 p1 p2 old content e m end = tt
ended_result (Some x) p0 p1 p2 old content e m end = content_ended p0 p1 p2 old content e m end

refuse_no : {A : Type 0} (b : Bool) (kind : TraceKind) (next out : Result A TraceKind) → b ≡ false → next ≡ out → (refuse b kind >> next) ≡ out
refuse_no {A} b kind next out e h = ap (λ b. refuse b kind >> next) e ∙ h

path_read : (path link : List ℕ) (given : Components) → read_path path ≡ Ok given → list_any (λ b. b == 0) link ≡ false → length link ≤ max_link → path_with_link (read_path path) link ≡ Ok given
path_read path link given e no_zero short =
    ap (λ (r : Result Components PathFault). path_with_link r link) e
    ∙ refuse_no _ _ _ _ no_zero (refuse_no _ _ _ _ (le-ltb _ _ short) refl)

bind_ok : {A B : Type 0} (r : Result A TraceKind) (x : A) (f : A → Result B TraceKind) (out : Result B TraceKind) → r ≡ Ok x → f x ≡ out → (r >>= f) ≡ out
bind_ok {A} r x f out e h = ap (λ (o : Result A TraceKind). o >>= f) e ∙ h

root_off : (root path : Components) → below_root root (root ++ path) ≡ Ok path
root_off root path = cond-true (is_prefix root (root ++ path)) _ _ (is_prefix-append root path) ∙ ap Ok (drop-append_seam root path)

sound_fields : (root : Components) (earlier : List Line) (f : Texts) (content : Content) (acl : List ℕ) (path : Components) (link : List ℕ) → f.path ≡ content.path.now → f.link ≡ content.link.now → meta_in f ≡ Ok content.meta
    → list_any (λ b. b == 0) content.link.now ≡ false → length content.link.now ≤ max_link → xattrs_of f.xattrs ≡ Ok content.xattrs.now → acl_field f.acl ≡ Ok acl → IsPlaced root earlier content.meta.kind content.path.now path → link ≡ content.link.now
    → line_in root earlier f ≡ Ok (record { number = length earlier + 1; path = path; rec = record { meta = content.meta; link = link; xattrs = content.xattrs.now; acl = acl } })
unfolding line_in
sound_fields root earlier f content acl path link p l meta no_zero short names list placed is =
    bind_ok _ _ _ _ (path_read f.path f.link (root ++ path) (ap read_path p ∙ placed.reads) (ap (list_any (λ b. b == 0)) l ∙ no_zero) (subst (λ (t : List ℕ). length t ≤ max_link) (sym l) short))
    (bind_ok _ _ _ _ meta
    (bind_ok _ _ _ _ names
    (bind_ok _ _ _ _ list
    (bind_ok _ _ _ _ (root_off root path)
    (ap (λ (o : Option TraceKind). unless_fault o (line_as f.link)) placed.place ∙ ap (λ (t : List ℕ). Ok (line_as t)) (l ∙ sym is))))))
  where
    line_as : List ℕ → Line
    line_as t = record { number = length earlier + 1; path = path; rec = record { meta = content.meta; link = t; xattrs = content.xattrs.now; acl = acl } }

-- the line of such parts, at its place
pub sound_line : (delim : ℕ) (root : Components) (earlier : List Line) (text : List ℕ) (parts : List (List ℕ)) (content : Content) (acl : List ℕ) (path : Components) → parts ≡ split delim text → TakesContent parts content → acl_field content.acl.now ≡ Ok acl → IsPlaced root earlier content.meta.kind content.path.now path
    → 0 < length earlier → IsSoundBehind delim root earlier text (line_with earlier content acl path)
sound_line delim root earlier text parts content acl path e taken list placed some =
    record {
      reads = ap (λ (ps : List (List ℕ)). ok_or (fields_of ps) Short >>= line_in root earlier) (sym e) ∙ step _ _ _ _ _ taken.fields (sound_fields root earlier taken.f content acl path content.link.now taken.path taken.link taken.meta taken.no_zero taken.short taken.xattrs (ap acl_field taken.acl ∙ list) placed refl);
      behind = some;
    }

-- content that was taken, or not, is the line of its text
pub sound_next : (taken : Bool) (delim : ℕ) (root : Components) (text : List ℕ) (parts : List (List ℕ)) (content : Content) (acl : List ℕ) (old new : List Line) → parts ≡ split delim text → TakesContent parts content → acl_field content.acl.now ≡ Ok acl → 0 < length old → Adds taken root content acl old new
    → AddsNext taken delim root text old new
sound_next true delim root text parts content acl old new e holds list some h = (line_with old content acl h.0, sound_line delim root old text parts content acl h.0 e holds list h.1 some, h.2)
sound_next false delim root text parts content acl old new e holds list some h = h

-- the same of content with the list of its own field
pub listed_result : (given : Result Bool AllocError) (root : Components) (content : Content) (acl : List ℕ) (old new : List Line) → acl_field content.acl.now ≡ Ok acl → IfOk given (λ taken. Adds taken root content acl old new) → IfOk given (λ taken. AddsListed taken root content old new)
listed_result (Ok true) root content acl old new list h = (acl, list, h)
listed_result (Ok false) root content acl old new list h = h
listed_result (Err error) root content acl old new list h = tt

pub sound_result : (given : Result Bool AllocError) (delim : ℕ) (root : Components) (text : List ℕ) (parts : List (List ℕ)) (content : Content) (old new : List Line) → parts ≡ split delim text → TakesContent parts content → 0 < length old
    → IfOk given (λ taken. AddsListed taken root content old new) → IfOk given (λ taken. AddsNext taken delim root text old new)
sound_result (Ok true) delim root text parts content old new e holds some h = sound_next true delim root text parts content h.0 old new e holds h.1 some h.2
sound_result (Ok false) delim root text parts content old new e holds some h = h
sound_result (Err error) delim root text parts content old new e holds some h = tt

-- a reader that has a line has its root
pub settled_behind : (delim : ℕ) (known : Progress) (text : List ℕ) → 0 < length known.lines → known ≡ progress_of (root_behind known.lines known.root delim (text ∷ [])) known.lines
settled_behind delim known text some = ap (λ (r : Components). progress_of r known.lines) (by known.lines some)
  where
    by : (lines : List Line) → 0 < length lines → known.root ≡ root_behind lines known.root delim (text ∷ [])
    by [] some = absurd (omega arith)
    by (line ∷ lines) some = refl
