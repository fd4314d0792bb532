-- What is packed goes on to mean the same when more is packed behind it.
use Rattle.std.proofs.Common.{◌≡◌, ◌∙◌, ℕ, ◌+◌, ◌<◌, ◌≤◌, List, [], ◌∷◌, ◌++◌, length, map, suc, take, drop, refl, sym, ap, subst, arith}
use Rattle.std.specs.Prelude.{All, IsTrue, true}
use Rattle.std.specs.List.{list_all}
use Rattle.std.proofs.lemmas.List.{drop-append-le, drop_at, drop-map, length-append, length-drop, length-map, take-append-le, take-map, take_all}
use Rattle.std.proofs.lemmas.List.Elements.{All-drop, All-push, All-take, All-weaker}
use Rattle.gufi_base.specs.Names.{is_name}
use Rattle.gufi_base.specs.Paths.{parent_path}
use Rattle.gufi_base.specs.PathTexts.{kept_text, names, IsText}
use Rattle.gufi_base.specs.declared.extras.Extras.{Extras}
use Rattle.gufi_base.specs.Extras.{kept_xattrs, kept_acl, AreKept}
use Rattle.gufi_base.proofs.Names.{names-kept_text, IsText-kept_text}
use Rattle.gufi_base.proofs.KeptExtras.{kept_xattrs-more, kept_acl-more, kept_size-more}
use Rattle.gufi_tree.specs.declared.tree.Entry.{Entry}
use Rattle.gufi_tree.specs.declared.bundle.Packed.{Packed}
use Rattle.gufi_tree.specs.declared.bundle.Head.{Head}
use Rattle.gufi_tree.specs.Tree.{Directory}
use Rattle.gufi_tree.specs.Bundles.{bytes_at, directory_in, entries_in, entry_in, name_in, path_in, IsBundle, IsHead, IsPacked}
use Rattle.gufi_tree.specs.GoingOn.{GoesOn}

-- what holds of each, where two functions are equal
pub map-same : {X Y : Type 0} (f g : X → Y) (xs : List X) → All (λ x. f x ≡ g x) xs → map f xs ≡ map g xs
map-same f g [] same = refl
map-same f g (x ∷ xs) same = ap (λ y. y ∷ map f xs) (same 0 x (omega arith)) ∙ ap (λ ys. g x ∷ ys) (map-same f g xs (λ k d lt. same (suc k) d (omega (arith, lt))))

-- a part of a list that goes on
part-more : {X : Type 0} (xs more : List X) (at count : ℕ) → at + count ≤ length xs → take count (drop at (xs ++ more)) ≡ take count (drop at xs)
part-more xs more at count within =
    ap (take count) (drop-append-le at xs more (omega (arith, within))) ∙ take-append-le count (drop at xs) more (omega (arith, within, length-drop at xs))

AreKept-more : (text more : List ℕ) (at : ℕ) (extras : Extras) → AreKept text at extras → AreKept (text ++ more) at extras
AreKept-more text more at extras kept = omega (arith, kept, length-append text more, kept_size-more text more at extras kept)

pub entry_in-more : (text more : List ℕ) (p : Packed) → IsPacked text p → entry_in (text ++ more) p ≡ entry_in text p
entry_in-more text more p is =
    let name : name_in (text ++ more) p ≡ name_in text p = part-more text more p.at p.name (omega (arith, is.within)) in
    let link : bytes_at (text ++ more) (p.at + p.name) p.link ≡ bytes_at text (p.at + p.name) p.link = part-more text more (p.at + p.name) p.link (omega (arith, is.within)) in
    let xattrs : kept_xattrs (text ++ more) (p.at + p.name + p.link) p.extras ≡ kept_xattrs text (p.at + p.name + p.link) p.extras = kept_xattrs-more text more (p.at + p.name + p.link) p.extras is.within in
    let acl : kept_acl (text ++ more) (p.at + p.name + p.link) p.extras ≡ kept_acl text (p.at + p.name + p.link) p.extras = kept_acl-more text more (p.at + p.name + p.link) p.extras is.within in
    λ i. record { name = name i; rec = record { link = link i; xattrs = xattrs i; acl = acl i; meta = p.meta } }

pub IsPacked-more : (text more : List ℕ) (p : Packed) → IsPacked text p → IsPacked (text ++ more) p
IsPacked-more text more p is = record {
  within = AreKept-more text more (p.at + p.name + p.link) p.extras is.within;
  name = subst (λ n. IsTrue (is_name n)) (sym (part-more text more p.at p.name (omega (arith, is.within)))) is.name;
}

entries_in-more : (text more : List ℕ) (rows : List Packed) → All (IsPacked text) rows → entries_in (text ++ more) rows ≡ entries_in text rows
entries_in-more text more rows all = map-same (entry_in (text ++ more)) (entry_in text) rows (All-weaker (IsPacked text) _ (entry_in-more text more) rows all)

pub entries_in-goes_on : (text next : List ℕ) (rows : List Packed) → (more : List ℕ) × (next ≡ text ++ more) → All (IsPacked text) rows → entries_in next rows ≡ entries_in text rows
entries_in-goes_on text next rows more all = ap (λ t. entries_in t rows) more.1 ∙ entries_in-more text more.0 rows all

pub IsPacked-goes_on : (text next : List ℕ) (rows : List Packed) → (more : List ℕ) × (next ≡ text ++ more) → All (IsPacked text) rows → All (IsPacked next) rows
IsPacked-goes_on text next rows more all = subst (λ t. All (IsPacked t) rows) (sym more.1) (All-weaker (IsPacked text) (IsPacked (text ++ more.0)) (IsPacked-more text more.0) rows all)

-- directories, when a text and its entries go on
module _ (text next : List ℕ) (rows after : List Packed) (goes : GoesOn text next rows after) (all : All (IsPacked text) rows) where
  IsHead-more : (h : Head) → IsHead text rows h → IsHead next after h
  IsHead-more h is = let same : path_in next h ≡ path_in text h = ap (λ t. path_in t h) goes.bytes.1 ∙ part-more text goes.bytes.0 h.at h.path (omega (arith, is.within)) in record {
    within = subst (λ t. AreKept t (h.at + h.path + h.link) h.extras) (sym goes.bytes.1) (AreKept-more text goes.bytes.0 (h.at + h.path + h.link) h.extras is.within);
    path = subst IsText (sym same) is.path;
    depth = is.depth ∙ ap (λ t. length (names t)) (sym same);
    last = λ some. is.last some ∙ ap (λ t. length (kept_text (parent_path (names t)))) (sym same);
    entries = omega (arith, is.entries, ap length goes.entries.1, length-append rows goes.entries.0);
  }

  directory_in-more : (h : Head) → IsHead text rows h → directory_in next after h ≡ directory_in text rows h
  directory_in-more h is =
      let path : path_in next h ≡ path_in text h = ap (λ t. path_in t h) goes.bytes.1 ∙ part-more text goes.bytes.0 h.at h.path (omega (arith, is.within)) in
      let link : bytes_at next (h.at + h.path) h.link ≡ bytes_at text (h.at + h.path) h.link =
      ap (λ t. bytes_at t (h.at + h.path) h.link) goes.bytes.1 ∙ part-more text goes.bytes.0 (h.at + h.path) h.link (omega (arith, is.within)) in
      let xattrs : kept_xattrs next (h.at + h.path + h.link) h.extras ≡ kept_xattrs text (h.at + h.path + h.link) h.extras =
      ap (λ t. kept_xattrs t (h.at + h.path + h.link) h.extras) goes.bytes.1 ∙ kept_xattrs-more text goes.bytes.0 (h.at + h.path + h.link) h.extras is.within in
      let acl : kept_acl next (h.at + h.path + h.link) h.extras ≡ kept_acl text (h.at + h.path + h.link) h.extras =
      ap (λ t. kept_acl t (h.at + h.path + h.link) h.extras) goes.bytes.1 ∙ kept_acl-more text goes.bytes.0 (h.at + h.path + h.link) h.extras is.within in
      let own : List Packed = take h.count (drop h.first rows) in
      let entries : entries_in next (take h.count (drop h.first after)) ≡ entries_in text own =
      ap (λ rs. entries_in next (take h.count (drop h.first rs))) goes.entries.1 ∙ ap (entries_in next) (part-more rows goes.entries.0 h.first h.count is.entries)
      ∙ entries_in-goes_on text next own goes.bytes (All-take (IsPacked text) h.count (drop h.first rows) (All-drop (IsPacked text) h.first rows all)) in
      λ i. record { path = names (path i); rec = record { link = link i; xattrs = xattrs i; acl = acl i; meta = h.meta }; entries = entries i }

  pub directories-goes_on : (heads : List Head) → All (IsHead text rows) heads → map (directory_in next after) heads ≡ map (directory_in text rows) heads
  directories-goes_on heads each = map-same (directory_in next after) (directory_in text rows) heads (All-weaker (IsHead text rows) _ directory_in-more heads each)

  pub IsBundle-goes_on : (heads : List Head) (longest : ℕ) → IsBundle text rows heads longest → IsBundle next after heads longest
  IsBundle-goes_on heads longest is = record { each = All-weaker (IsHead text rows) (IsHead next after) IsHead-more heads is.each; packed = goes.packed; short = is.short }

pub IsBundle-push : (text : List ℕ) (rows : List Packed) (heads : List Head) (longest most : ℕ) (h : Head) → IsBundle text rows heads longest → IsHead text rows h → longest ≤ most → h.path ≤ most → IsBundle text rows (heads ++ h ∷ []) most
IsBundle-push text rows heads longest most h is here le own = record {
  each = All-push (IsHead text rows) heads h is.each here;
  packed = is.packed;
  short = All-push (λ (head : Head). head.path ≤ most) heads h (All-weaker (λ (head : Head). head.path ≤ longest) (λ (head : Head). head.path ≤ most) (λ (head : Head) (short : head.path ≤ longest). omega arith) heads is.short) own;
}

-- the entries that were packed last
module _ (text next : List ℕ) (rows after : List Packed) (entries : List Entry) (is : entries_in next after ≡ entries_in text rows ++ entries) where
  pub length-last : length after ≡ length rows + length entries
  length-last = omega (arith, ap length is, length-append (entries_in text rows) entries, length-map after (entry_in next), length-map rows (entry_in text))

  pub entries_in-last : (first count : ℕ) → first ≡ length rows → count ≡ length entries → entries_in next (take count (drop first after)) ≡ entries
  entries_in-last first count f c =
      sym (ap (take count) (drop-map (entry_in next) first after) ∙ take-map (entry_in next) count (drop first after)) ∙ ap (λ es. take count (drop first es)) is
      ∙ ap (take count) (drop_at (entries_in text rows) entries first (omega (arith, f, length-map rows (entry_in text)))) ∙ take_all count entries (omega (arith, c))

-- a path, a link and what is kept behind them, when their text goes on
module _ (mid next : List ℕ) (at path link : ℕ) (extras : Extras) (more : (bytes : List ℕ) × (next ≡ mid ++ bytes)) (within : AreKept mid (at + path + link) extras) where
  pub within-goes_on : AreKept next (at + path + link) extras
  within-goes_on = subst (λ t. AreKept t (at + path + link) extras) (sym more.1) (AreKept-more mid more.0 (at + path + link) extras within)

  pub path-goes_on : bytes_at next at path ≡ bytes_at mid at path
  path-goes_on = ap (λ t. bytes_at t at path) more.1 ∙ part-more mid more.0 at path (omega (arith, within))

  pub link-goes_on : bytes_at next (at + path) link ≡ bytes_at mid (at + path) link
  link-goes_on = ap (λ t. bytes_at t (at + path) link) more.1 ∙ part-more mid more.0 (at + path) link (omega (arith, within))

  pub xattrs-goes_on : kept_xattrs next (at + path + link) extras ≡ kept_xattrs mid (at + path + link) extras
  xattrs-goes_on = ap (λ t. kept_xattrs t (at + path + link) extras) more.1 ∙ kept_xattrs-more mid more.0 (at + path + link) extras within

  pub acl-goes_on : kept_acl next (at + path + link) extras ≡ kept_acl mid (at + path + link) extras
  acl-goes_on = ap (λ t. kept_acl t (at + path + link) extras) more.1 ∙ kept_acl-more mid more.0 (at + path + link) extras within

-- a directory whose path, link and what is kept behind it stand in the text of its entries
module _ (mid next : List ℕ) (rows after : List Packed) (h : Head) (dir : Directory) (kept link : List ℕ) (is : entries_in next after ≡ entries_in mid rows ++ dir.entries)
    (within : AreKept next (h.at + length kept + length link) h.extras) (first : h.first ≡ length rows) (count : h.count ≡ length dir.entries)
    (path : h.path ≡ length kept) (target : h.link ≡ length link) (of : kept ≡ kept_text dir.path) (put : bytes_at next h.at (length kept) ≡ kept) (named : list_all is_name dir.path ≡ true) where
  kept_there : path_in next h ≡ kept_text dir.path
  kept_there = ap (bytes_at next h.at) path ∙ put ∙ of

  behind_link : h.at + length kept + length link ≡ h.at + h.path + h.link
  behind_link = omega (arith, path, target)

  names_there : names (path_in next h) ≡ dir.path
  names_there = ap names kept_there ∙ names-kept_text dir.path named

  pub IsHead-put : h.depth ≡ length dir.path → (1 < length (kept_text dir.path) → h.last ≡ length (kept_text (parent_path dir.path))) → IsHead next after h
  IsHead-put depth last = record {
    within = subst (λ n. AreKept next n h.extras) behind_link within;
    path = subst IsText (sym kept_there) (IsText-kept_text dir.path named);
    depth = depth ∙ ap length (sym names_there);
    last = λ some. last (omega (arith, some, path, ap length of)) ∙ ap (λ names'. length (kept_text (parent_path names'))) (sym names_there);
    entries = omega (arith, first, count, length-last mid next rows after dir.entries is);
  }

  pub directory_in-put : h.meta ≡ dir.rec.meta → link ≡ dir.rec.link → bytes_at next (h.at + length kept) (length link) ≡ link
      → kept_xattrs next (h.at + length kept + length link) h.extras ≡ dir.rec.xattrs → kept_acl next (h.at + length kept + length link) h.extras ≡ dir.rec.acl
      → directory_in next after h ≡ dir
  directory_in-put meta l there own_xattrs own_acl =
      let link_there : bytes_at next (h.at + h.path) h.link ≡ dir.rec.link = ap (λ n. bytes_at next (h.at + n) h.link) path ∙ ap (bytes_at next (h.at + length kept)) target ∙ there ∙ l in
      let xattrs_there : kept_xattrs next (h.at + h.path + h.link) h.extras ≡ dir.rec.xattrs = ap (λ n. kept_xattrs next n h.extras) (sym behind_link) ∙ own_xattrs in
      let acl_there : kept_acl next (h.at + h.path + h.link) h.extras ≡ dir.rec.acl = ap (λ n. kept_acl next n h.extras) (sym behind_link) ∙ own_acl in
      let entries : entries_in next (take h.count (drop h.first after)) ≡ dir.entries = entries_in-last mid next rows after dir.entries is h.first h.count first count in
      λ i. record { path = names_there i; rec = record { link = link_there i; xattrs = xattrs_there i; acl = acl_there i; meta = meta i }; entries = entries i }
