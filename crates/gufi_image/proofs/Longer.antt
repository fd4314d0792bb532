-- Bytes read with more behind them: what is whole is read the same, and a fault is the same one, unless more was all that was missing.
use Rattle.std.proofs.Common.{◌≡◌, ℕ, ◌+◌, ◌≤◌, Bool, true, false, eqb, ltb, List, [], ◌∷◌, ◌++◌, length, take, drop, Result, Ok, Err, refl, sym, ap, subst, ◌∙◌, arith, length-append}
use Rattle.std.specs.Prelude.{Option, Some, None, ok_or}
use Rattle.std.specs.Bool.{nat_eq}
use Rattle.std.specs.List.{starts_with}
use Rattle.std.specs.Int.{Width as Bits, w8, w16, w32, w64, byte_len}
use Rattle.std.proofs.lemmas.Bool.{ltb-true, ltb-false}
use Rattle.std.proofs.lemmas.List.{append-nil, take-append-le, drop-append-le}
use Rattle.gufi_base.specs.declared.record.Kind.{Kind}
use Rattle.gufi_base.specs.Limits.{max_dirs, max_entries}
use Rattle.gufi_base.specs.Basics.{◌>>=◌, ◌>>◌}
use Rattle.gufi_base.specs.Paths.{Components}
use Rattle.gufi_tree.specs.declared.tree.Entry.{Entry}
use Rattle.gufi_tree.specs.Tree.{Directory}
use Rattle.gufi_image.specs.declared.fault.Flaw.{Flaw}
use Rattle.gufi_image.specs.declared.fault.ImageKind.{ImageKind}
use Rattle.gufi_image.specs.declared.fault.ImageKind.TheVariants as kinds
use Rattle.gufi_image.specs.declared.directory.Flag.{Flag}
use Rattle.gufi_image.specs.Bytes.{magic}
use Rattle.gufi_image.specs.declared.width.Width.{Width}
use Rattle.gufi_image.specs.Widths.{has_names, has_acls}
use Rattle.gufi_image.specs.Fields.{flaw, wrong, bytes_at, number_at, signed_at, meta_at, link_at, names_at, acl_at, extra_at, record_at}
use Rattle.gufi_image.specs.Names.{name_at}
use Rattle.gufi_image.specs.Entries.{entry_at}
use Rattle.gufi_image.specs.Directories.{root_at, below_at, first_at, other_at, path_at, flag_at, Heading, heading_at}
use Rattle.gufi_image.specs.Reading.{Counts, counts_at, version_at, head_at}
use Rattle.gufi_image.specs.Pieces.{later, Stops, Tells}
use Rattle.gufi_image.proofs.FieldsBack.{ok_same}

-- The second reading is the first with more bytes behind; what it gave counts the bytes that are left, where it counts them, with more.
pub record Goes {X : Type 0} (on : X → X) (more : List ℕ) (a b : Result (X × List ℕ) Flaw) : Type 0 where
  pub ok : (x : X × List ℕ) → a ≡ Ok x → b ≡ Ok (on x.0, x.1 ++ more)
  pub err : (f : Flaw) → a ≡ Err f → Stops f more b

abbrev flaw_at : ℕ → ImageKind → Flaw
flaw_at left kind = record { left = left; kind = kind }

module _ (more : List ℕ) where
  done : {X : Type 0} (on : X → X) (x y : X) (rest : List ℕ) → on x ≡ y → Goes on more (Ok (x, rest)) (Ok (y, rest ++ more))
  done {X} on x y rest is = record {
    ok = λ z e. let same : (x, rest) ≡ z = ok_same _ _ e in ap (λ (v : X). Ok (v, rest ++ more)) (sym is) ∙ ap (λ (v : X × List ℕ). Ok (on v.0, v.1 ++ more)) same;
    err = λ f e. absurd cc;
  }

  chain : {X Y : Type 0} (on : X → X) (on' : Y → Y) (a b : Result (X × List ℕ) Flaw) (f g : X × List ℕ → Result (Y × List ℕ) Flaw)
      → Goes on more a b → ((x : X) (rest : List ℕ) → Goes on' more (f (x, rest)) (g (on x, rest ++ more))) → Goes on' more (a >>= f) (b >>= g)
  chain {X} on on' (Ok x) b f g h then = subst (λ (r : Result (X × List ℕ) Flaw). Goes on' more (f x) (r >>= g)) (sym (h.ok x refl)) (then x.0 x.1)
  chain {X} on on' (Err e) b f g h then = record {
    ok = λ y no. absurd cc;
    err = λ d is only. let same : e ≡ d = cc in ap (λ (r : Result (X × List ℕ) Flaw). r >>= g) (h.err d (ap Err same) only);
  }

  fault_later : (bytes : List ℕ) (kind : ImageKind) (f : Flaw) → flaw bytes kind ≡ f → flaw (bytes ++ more) kind ≡ later (length more) f
  fault_later bytes kind f same = ap (λ n. flaw_at n kind) (length-append bytes more) ∙ ap (later (length more)) same

  refused : {X : Type 0} (on : X → X) (next after : Result (X × List ℕ) Flaw) (test : Bool) (bytes : List ℕ) (kind : ImageKind)
      → Goes on more next after → Goes on more (wrong test bytes kind >> next) (wrong test (bytes ++ more) kind >> after)
  refused on next after true bytes kind h = record {
    ok = λ y no. absurd cc;
    err = λ f is only. let same : flaw bytes kind ≡ f = cc in ap Err (fault_later bytes kind f same);
  }
  refused on next after false bytes kind h = h

  known : {A X : Type 0} (on : X → X) (o : Option A) (bytes : List ℕ) (kind : ImageKind) (f g : A → Result (X × List ℕ) Flaw)
      → ((a : A) → Goes on more (f a) (g a)) → Goes on more (ok_or o (flaw bytes kind) >>= f) (ok_or o (flaw (bytes ++ more) kind) >>= g)
  known on (Some a) bytes kind f g then = then a
  known on None bytes kind f g then = record {
    ok = λ y no. absurd cc;
    err = λ d is only. let same : flaw bytes kind ≡ d = cc in ap Err (fault_later bytes kind d same);
  }

  -- where there is no more
  goes_none : {X : Type 0} (on : X → X) (read : List ℕ → Result (X × List ℕ) Flaw) (bytes : List ℕ) → more ≡ [] → ((x : X) → on x ≡ x) → Goes on more (read bytes) (read (bytes ++ more))
  goes_none {X} on read bytes none still =
      let same : read (bytes ++ more) ≡ read bytes = ap (λ (m : List ℕ). read (bytes ++ m)) none ∙ ap read (append-nil bytes) in
      record {
        ok = λ x e. same ∙ e ∙ ap (λ (v : X). Ok (v, x.1)) (sym (still x.0)) ∙ ap (λ (t : List ℕ). Ok (on x.0, t)) (sym (ap (λ (m : List ℕ). x.1 ++ m) none ∙ append-nil x.1));
        err = λ f e only. let left : f.left ≡ f.left + length more = omega (arith, ap length none) in same ∙ e ∙ ap (λ n. Err (flaw_at n f.kind)) left;
      }

  bytes_goes : (count : ℕ) (bytes : List ℕ) → Goes (λ (x : List ℕ). x) more (bytes_at count bytes) (bytes_at count (bytes ++ more))
  bytes_goes count bytes = by (ltb (length bytes) count) refl where
    by : (b : Bool) → ltb (length bytes) count ≡ b → Goes (λ (x : List ℕ). x) more (bytes_at count bytes) (bytes_at count (bytes ++ more))
    by false long =
        let enough : count ≤ length bytes = ltb-false (length bytes) count long in
        let longer : ltb (length (bytes ++ more)) count ≡ false = grind (arith, length-append bytes more) in
        rw (long, longer, take-append-le count bytes more enough, drop-append-le count bytes more enough) (done (λ (x : List ℕ). x) (take count bytes) (take count bytes) (drop count bytes) refl)
    by true short =
        let cut : bytes_at count bytes ≡ Err (flaw bytes kinds.Cut) = rw short refl in
        record {
          ok = λ x e. let no : Err (flaw bytes kinds.Cut) ≡ Ok x = sym cut ∙ e in absurd cc;
          err = λ f e only.
              let both : Err (flaw bytes kinds.Cut) ≡ Err f = sym cut ∙ e in
              let same : flaw bytes kinds.Cut ≡ f = cc in
              (goes_none (λ (x : List ℕ). x) (bytes_at count) bytes (only (ap (λ (d : Flaw). d.kind) (sym same))) (λ x. refl)).err f e only;
        }

  number_goes : (w : Bits) (bytes : List ℕ) → Goes (λ (n : ℕ). n) more (number_at w bytes) (number_at w (bytes ++ more))
  number_goes w bytes = chain _ _ _ _ _ _ (bytes_goes (byte_len w) bytes) (λ field rest. done _ _ _ _ refl)

  signed_goes : (bytes : List ℕ) → Goes (λ x. x) more (signed_at bytes) (signed_at (bytes ++ more))
  signed_goes bytes = chain _ _ _ _ _ _ (number_goes w64 bytes) (λ n rest. done _ _ _ _ refl)

  pub meta_goes : (kind : Kind) (bytes : List ℕ) → Goes (λ x. x) more (meta_at kind bytes) (meta_at kind (bytes ++ more))
  unfolding meta_at
  meta_goes kind bytes =
      chain _ _ _ _ _ _ (number_goes w64 bytes) (λ inode r1.
      chain _ _ _ _ _ _ (number_goes w16 r1) (λ mode r2.
      refused _ _ _ _ r1 _ (
      chain _ _ _ _ _ _ (number_goes w64 r2) (λ nlink r3.
      chain _ _ _ _ _ _ (number_goes w32 r3) (λ uid r4.
      chain _ _ _ _ _ _ (number_goes w32 r4) (λ gid r5.
      chain _ _ _ _ _ _ (number_goes w64 r5) (λ size r6.
      chain _ _ _ _ _ _ (number_goes w64 r6) (λ blksize r7.
      chain _ _ _ _ _ _ (number_goes w64 r7) (λ blocks r8.
      chain _ _ _ _ _ _ (signed_goes r8) (λ atime r9.
      chain _ _ _ _ _ _ (signed_goes r9) (λ mtime r10.
      chain _ _ _ _ _ _ (signed_goes r10) (λ ctime rest. done _ _ _ _ refl))))))))))))

  link_goes : (bytes : List ℕ) → Goes (λ x. x) more (link_at bytes) (link_at (bytes ++ more))
  unfolding link_at
  link_goes bytes =
      chain _ _ _ _ _ _ (number_goes w16 bytes) (λ count r1.
      refused _ _ _ _ bytes _ (
      chain _ _ _ _ _ _ (bytes_goes count r1) (λ link rest.
      refused _ _ _ _ bytes _ (done _ _ _ _ refl))))

  names_goes : (bytes : List ℕ) → Goes (λ x. x) more (names_at bytes) (names_at (bytes ++ more))
  unfolding names_at
  names_goes bytes =
      chain _ _ _ _ _ _ (number_goes w16 bytes) (λ count r1.
      refused _ _ _ _ bytes _ (
      chain _ _ _ _ _ _ (bytes_goes count r1) (λ names rest.
      refused _ _ _ _ bytes _ (done _ _ _ _ refl))))

  acl_goes : (bytes : List ℕ) → Goes (λ x. x) more (acl_at bytes) (acl_at (bytes ++ more))
  unfolding acl_at
  acl_goes bytes =
      chain _ _ _ _ _ _ (number_goes w16 bytes) (λ count r1.
      chain _ _ _ _ _ _ (bytes_goes count r1) (λ acl rest.
      refused _ _ _ _ bytes _ (done _ _ _ _ refl)))

  extra_goes : (read : List ℕ → Result (List ℕ × List ℕ) Flaw) (held : Bool) (bytes : List ℕ) → Goes (λ x. x) more (read bytes) (read (bytes ++ more)) → Goes (λ x. x) more (extra_at read held bytes) (extra_at read held (bytes ++ more))
  extra_goes read true bytes h = h
  extra_goes read false bytes h = done _ _ _ _ refl

  record_goes : (width : Width) (kind : Kind) (bytes : List ℕ) → Goes (λ x. x) more (record_at width kind bytes) (record_at width kind (bytes ++ more))
  unfolding record_at
  record_goes width kind bytes =
      chain _ _ _ _ _ _ (meta_goes kind bytes) (λ meta r1.
      chain _ _ _ _ _ _ (link_goes r1) (λ link r2.
      chain _ _ _ _ _ _ (extra_goes names_at (has_names width) r2 (names_goes r2)) (λ xattrs r3.
      chain _ _ _ _ _ _ (extra_goes acl_at (has_acls width) r3 (acl_goes r3)) (λ acl rest. done _ _ _ _ refl))))

  name_goes : (above : Components) (bytes : List ℕ) → Goes (λ x. x) more (name_at above bytes) (name_at above (bytes ++ more))
  unfolding name_at
  name_goes above bytes =
      chain _ _ _ _ _ _ (number_goes w8 bytes) (λ count r1.
      chain _ _ _ _ _ _ (bytes_goes count r1) (λ name rest.
      refused _ _ _ _ bytes _ (done _ _ _ _ refl)))

  pub entry_goes : (width : Width) (path : Components) (before : List Entry) (bytes : List ℕ) → Goes (λ x. x) more (entry_at width path before bytes) (entry_at width path before (bytes ++ more))
  unfolding entry_at
  entry_goes width path before bytes =
      chain _ _ _ _ _ _ (number_goes w8 bytes) (λ letter r1.
      known _ _ bytes _ _ _ (λ kind.
      chain _ _ _ _ _ _ (name_goes path r1) (λ name r2.
      refused _ _ _ _ bytes _ (
      chain _ _ _ _ _ _ (record_goes width kind r2) (λ rec rest. done _ _ _ _ refl)))))

  root_goes : (bytes : List ℕ) → Goes (λ x. x) more (root_at bytes) (root_at (bytes ++ more))
  unfolding root_at
  root_goes bytes = chain _ _ _ _ _ _ (number_goes w8 bytes) (λ count rest. refused _ _ _ _ bytes _ (done _ _ _ _ refl))

  below_goes : (parent : Directory) (bytes : List ℕ) → Goes (λ x. x) more (below_at parent bytes) (below_at parent (bytes ++ more))
  unfolding below_at
  below_goes parent bytes = chain _ _ _ _ _ _ (name_goes parent.path bytes) (λ name rest. refused _ _ _ _ bytes _ (done _ _ _ _ refl))

  path_goes : (dirs : List Directory) (bytes : List ℕ) → Goes (λ x. x) more (path_at dirs bytes) (path_at dirs (bytes ++ more))
  unfolding path_at first_at other_at
  path_goes [] bytes = chain _ _ _ _ _ _ (number_goes w32 bytes) (λ number rest. refused _ _ _ _ bytes _ (root_goes rest))
  path_goes (first ∷ dirs) bytes =
      chain _ _ _ _ _ _ (number_goes w32 bytes) (λ number r1.
      known _ _ bytes _ _ _ (λ parent.
      chain _ _ _ _ _ _ (below_goes parent r1) (λ path rest.
      refused _ _ _ _ bytes _ (done _ _ _ _ refl))))

  abbrev flag_later : Flag → Flag
  flag_later flag = record { set = flag.set; left = flag.left + length more }

  flag_goes : (bytes : List ℕ) → Goes flag_later more (flag_at bytes) (flag_at (bytes ++ more))
  unfolding flag_at
  flag_goes bytes =
      chain _ _ _ _ _ _ (number_goes w8 bytes) (λ byte rest.
      refused _ _ _ _ bytes _ (done flag_later _ _ _ (ap (λ n. let f : Flag = record { set = eqb byte 1; left = n } in f) (sym (length-append bytes more)))))

  abbrev pub heading_later : Heading → Heading
  heading_later h = record { path = h.path; rec = h.rec; flag = flag_later h.flag; count = h.count }

  pub heading_goes : (width : Width) (total : ℕ) (dirs : List Directory) (bytes : List ℕ) → Goes heading_later more (heading_at width total dirs bytes) (heading_at width total dirs (bytes ++ more))
  unfolding heading_at
  heading_goes width total dirs bytes =
      chain _ _ _ _ _ _ (path_goes dirs bytes) (λ path r1.
      chain _ _ _ _ _ _ (flag_goes r1) (λ flag r2.
      chain _ _ _ _ _ _ (record_goes width _ r2) (λ rec r3.
      chain _ _ _ _ _ _ (number_goes w32 r3) (λ count rest.
      refused _ _ _ _ r3 _ (done heading_later _ _ _ refl)))))

  abbrev pub counts_later : Counts → Counts
  counts_later c = record { width = c.width; limit = c.limit; dirs = c.dirs; entries = c.entries; left = c.left + length more }

  counts_goes : (width : Width) (bytes : List ℕ) → Goes counts_later more (counts_at width bytes) (counts_at width (bytes ++ more))
  unfolding counts_at
  counts_goes width bytes =
      chain _ _ _ _ _ _ (number_goes w64 bytes) (λ limit r1.
      chain _ _ _ _ _ _ (number_goes w32 r1) (λ dirs r2.
      refused _ _ _ (ltb max_dirs dirs) r1 (kinds.TooMany max_dirs) (
      refused _ _ _ (eqb dirs 0) r1 kinds.Number (
      chain _ _ _ _ _ _ (number_goes w32 r2) (λ entries rest.
      refused _ _ _ (ltb max_entries entries) r2 (kinds.TooMany max_entries) (done counts_later (record { width = width; limit = limit; dirs = dirs; entries = entries; left = length r2 }) _ _ (ap (λ n. let c : Counts = record { width = width; limit = limit; dirs = dirs; entries = entries; left = n } in c) (sym (length-append r2 more)))))))))

  version_goes : (bytes : List ℕ) → Goes (λ x. x) more (version_at bytes) (version_at (bytes ++ more))
  unfolding version_at
  version_goes bytes = chain _ _ _ _ _ _ (number_goes w16 bytes) (λ version rest. known _ _ bytes _ _ _ (λ width. done _ _ _ _ refl))

  pub head_goes : (bytes : List ℕ) → Tells bytes more → Goes counts_later more (head_at bytes) (head_at (bytes ++ more))
  unfolding head_at
  head_goes bytes tells = by (ltb (length bytes) 6) refl where
    by : (b : Bool) → ltb (length bytes) 6 ≡ b → Goes counts_later more (head_at bytes) (head_at (bytes ++ more))
    by true short =
        let none = tells (ltb-true (length bytes) 6 short) in
        goes_none counts_later head_at bytes none (λ c. let left : c.left + length more ≡ c.left = omega (arith, ap length none) in ap (λ n. let d : Counts = record { width = c.width; limit = c.limit; dirs = c.dirs; entries = c.entries; left = n } in d) left)
    by false long =
        let enough : 6 ≤ length bytes = ltb-false (length bytes) 6 long in
        let mark : starts_with nat_eq (bytes ++ more) magic ≡ starts_with nat_eq bytes magic = rw (take-append-le 6 bytes more enough) refl in
        rw (mark, drop-append-le 6 bytes more enough) (refused _ _ _ _ bytes _ (chain _ _ _ _ _ _ (version_goes (drop 6 bytes)) (λ width rest. counts_goes width rest)))
