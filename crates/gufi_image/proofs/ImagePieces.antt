-- An image read in pieces.
use Rattle.std.proofs.Common.{◌≡◌, ℕ, ◌+◌, ◌-◌, ◌≤◌, Bool, true, false, not, ◌&&◌, eqb, List, [], ◌∷◌, ◌++◌, length, take, drop, length-append, append_assoc, Result, Ok, Err, refl, sym, ap, subst, ◌∙◌, arith}
use Rattle.std.specs.Prelude.{Option, Some, None, OnOk, IfErr}
use Rattle.std.proofs.lemmas.Bool.{and_parts}
use Rattle.std.specs.List.{ends_with}
use Rattle.std.proofs.Math.Seq.{drop-append_seam}
use Rattle.std.proofs.lemmas.Bool.Decides.{Decides-eqb}
use Rattle.std.proofs.lemmas.List.{append-nil, take-append-drop, length-take-le, take_rest}
use Rattle.std.proofs.lemmas.Slice.Eq.{ends_is}
use Rattle.gufi_base.specs.Limits.{max_image}
use Rattle.gufi_base.specs.Basics.{result_map_err, GivesUnless}
use Rattle.gufi_tree.specs.Tree.{entry_count}
use Rattle.gufi_snap.specs.Snap.{Snap}
use Rattle.gufi_image.specs.declared.fault.Flaw.{Flaw}
use Rattle.gufi_image.specs.declared.fault.ImageError.{ImageError}
use Rattle.gufi_image.specs.declared.fault.ImageError.TheVariants as errors
use Rattle.gufi_image.specs.declared.fault.ImageKind.TheVariants as kinds
use Rattle.gufi_image.specs.declared.fault.Refused.{Refused}
use Rattle.gufi_image.specs.declared.fault.Refused.TheVariants as refusals
use Rattle.gufi_image.specs.declared.head.Head.{Head}
use Rattle.gufi_image.specs.declared.progress.Progress.{Progress}
use Rattle.gufi_image.specs.Fields.{flaw, Refuses}
use Rattle.gufi_image.specs.Directories.{directories_at, one_directory}
use Rattle.gufi_image.specs.Repeated.{repeated}
use Rattle.gufi_image.specs.Reading.{Counts, head_at, is_bare, all_at, snapshot_at, fault_in, image_means}
use Rattle.gufi_image.specs.Views.{front_near}
use Rattle.gufi_image.specs.Parts.{counts, counted}
use Rattle.gufi_image.specs.Pieces.{Stops, OnFlaw, UnlessMemory, Alike, Halts, Tells, Fails, IsRead, IsBegun, is_as_said, rest_of, rest_by, judged, resume, resumed}
use Rattle.gufi_image.specs.Reader.{Reading, IsGood, HasReadBy, HasRead}
use Rattle.gufi_image.proofs.Longer.{head_goes}
use Rattle.gufi_image.proofs.Fronts.{not_true}
use Rattle.gufi_image.proofs.DirectoryLoop.{rest_none}

-- ---- the head

pub head_had : (room : ℕ) (bytes after : List ℕ) (head kept : Head) → head_at bytes ≡ Ok (counts head, after) → kept ≡ record head { left = head.left + room }
    → (more : List ℕ) → length more ≤ room → Tells bytes more → head_at (bytes ++ more) ≡ Ok (counted (room - length more) kept, after ++ more)
head_had room bytes after head kept h is more within tells =
    let left : head.left + length more ≡ head.left + room - (room - length more) = omega (arith, within) in
    (head_goes more bytes tells).ok (counts head, after) h
    ∙ ap (λ n. let c : Counts = record { width = head.width; limit = head.limit; dirs = head.dirs; entries = head.entries; left = n } in Ok (c, after ++ more)) left
    ∙ ap (λ (g : Head). Ok (counted (room - length more) g, after ++ more)) (sym is)

pub head_refused : (bytes : List ℕ) (e : Refused) → Refuses e (head_at bytes) → OnFlaw e (λ f. (more : List ℕ) → Tells bytes more → Stops f more (head_at (bytes ++ more)))
head_refused bytes refusals.Memory h = tt
head_refused bytes (refusals.Flaw f) h = λ more tells only. (head_goes more bytes tells).err f h only

pub begun : (k : ℕ) (p : Progress) (bytes after : List ℕ) → IsBegun p → head_at bytes ≡ Ok (counted k p.head, after) → snapshot_at bytes ≡ judged (counted k p.head) (rest_of k p after)
unfolding snapshot_at all_at directories_at
begun k p bytes after b h =
    let part = b.part in
    let dirs = b.dirs in
    let flags = b.flags in
    let none : p.head.dirs ≡ p.head.dirs - 0 = omega arith in
    rw (h, part, dirs, flags) (ap (λ n. judged (counted k p.head) (repeated (one_directory p.head.width p.head.entries) n (record { dirs = []; flags = [] }) after)) none)

pub unbegun_stops : (f : Flaw) (bytes more : List ℕ) → Stops f more (head_at bytes) → Stops f more (snapshot_at bytes)
unfolding snapshot_at all_at
unbegun_stops f bytes more h only = let fault = h only in rw fault refl

-- ---- the end of the directories

module _ (k : ℕ) (p : Progress) (h : IsRead p) (whole : p.head.dirs ≤ length p.directories.packing.dirs) where
  at_end : (bytes : List ℕ) → resume k (Some p) bytes ≡ judged (counted k p.head) (Ok (front_near k p.directories, bytes))
  at_end bytes = ap (judged (counted k p.head)) (rest_none k p bytes h whole)

  -- A fault that comes before what stands behind the directories is that of all bytes.
  pub said_otherwise : (bytes other : List ℕ) → is_as_said p.head p.directories.packing.dirs ≡ false → resume k (Some p) bytes ≡ resume k (Some p) other
  said_otherwise bytes other not_said = at_end bytes ∙ by (eqb (entry_count p.directories.packing.dirs) p.head.entries) (is_bare p.head.width p.directories.packing.dirs) refl refl not_said ∙ sym (at_end other) where
    by : (counted_so bare : Bool) → eqb (entry_count p.directories.packing.dirs) p.head.entries ≡ counted_so → is_bare p.head.width p.directories.packing.dirs ≡ bare → (counted_so && not bare) ≡ false
        → judged (counted k p.head) (Ok (front_near k p.directories, bytes)) ≡ judged (counted k p.head) (Ok (front_near k p.directories, other))
    by false bare count is not_so = rw count refl
    by true true count is not_so = rw (count, is) refl
    by true false count is not_so = absurd cc

  -- Else the first byte behind them is the fault.
  pub trails : (bytes more : List ℕ) → eqb (length bytes) 0 ≡ false → is_as_said p.head p.directories.packing.dirs ≡ true → Stops (flaw bytes kinds.Trailing) more (resume k (Some p) (bytes ++ more))
  trails [] more some said only = absurd cc
  trails (b ∷ bytes) more some said only =
      let both = and_parts (eqb (entry_count p.directories.packing.dirs) p.head.entries) (not (is_bare p.head.width p.directories.packing.dirs)) said in
      let count = both.0 in
      let least = not_true (is_bare p.head.width p.directories.packing.dirs) both.1 in
      at_end (b ∷ (bytes ++ more)) ∙ rw (count, least) (ap (λ n. Err (record { left = n; kind = kinds.Trailing })) (length-append (b ∷ bytes) more))

-- ---- the end of the bytes

rest_at_end : (room : ℕ) (p : Progress) (bytes : List ℕ) → rest_of room p bytes ≡ rest_by p bytes (room - 0) []
rest_at_end room p bytes =
    let none : room ≡ room - 0 = omega arith in
    ap (λ k. rest_of k p bytes) none ∙ ap (rest_of (room - 0) p) (sym (append-nil bytes))

fault_at_end : {Y : Type 0} (f : Flaw) (read : Result Y Flaw) → Stops f [] read → read ≡ Err f
fault_at_end f read h = let none : f.left + 0 ≡ f.left = omega arith in h (λ cut. refl) ∙ ap (λ n. let g : Flaw = record { left = n; kind = f.kind } in Err g) none

pub unfinished : (room : ℕ) (e : Refused) (p q : Progress) (bytes rest : List ℕ) → UnlessMemory (Err e) (Alike room (rest_by p bytes) (rest_by q rest)) → OnFlaw e (Halts room (rest_by q rest))
    → Refuses e (judged (counted room p.head) (rest_of room p bytes))
unfinished room refusals.Memory p q bytes rest same halts = tt
unfinished room (refusals.Flaw f) p q bytes rest same halts =
    ap (judged (counted room p.head)) (rest_at_end room p bytes ∙ same [] (omega arith) ∙ fault_at_end f _ (halts [] (omega arith)))

pub finished : (room : ℕ) (p q : Progress) (bytes rest : List ℕ) → Alike room (rest_by p bytes) (rest_by q rest) → q.head ≡ p.head → IsRead q → q.head.dirs ≤ length q.directories.packing.dirs
    → judged (counted room p.head) (rest_of room p bytes) ≡ judged (counted room q.head) (Ok (front_near room q.directories, rest))
finished room p q bytes rest same head h whole =
    ap (judged (counted room p.head)) (rest_at_end room p bytes ∙ same [] (omega arith) ∙ sym (rest_at_end room q rest) ∙ rest_none room q rest h whole)
    ∙ ap (λ (g : Head). judged (counted room g) (Ok (front_near room q.directories, rest))) (sym head)

pub begun_at_end : (room : ℕ) (p : Progress) (bytes after : List ℕ) → IsBegun p → ((more : List ℕ) → length more ≤ room → Tells bytes more → head_at (bytes ++ more) ≡ Ok (counted (room - length more) p.head, after ++ more))
    → snapshot_at bytes ≡ judged (counted room p.head) (rest_of room p after)
begun_at_end room p bytes after b h =
    let none : room - 0 ≡ room = omega arith in
    ap snapshot_at (sym (append-nil bytes)) ∙ begun (room - 0) p (bytes ++ []) (after ++ []) b (h [] (omega arith) (λ short. refl))
    ∙ ap (λ k. judged (counted k p.head) (rest_of k p (after ++ []))) none ∙ ap (λ (t : List ℕ). judged (counted room p.head) (rest_of room p t)) (append-nil after)

pub unbegun_at_end : (bytes : List ℕ) (e : Refused) → OnFlaw e (λ f. (more : List ℕ) → Tells bytes more → Stops f more (head_at (bytes ++ more))) → Refuses e (snapshot_at bytes)
unbegun_at_end bytes refusals.Memory h = tt
unbegun_at_end bytes (refusals.Flaw f) h =
    ap snapshot_at (sym (append-nil bytes)) ∙ fault_at_end f _ (unbegun_stops f (bytes ++ []) [] (h [] (λ short. refl)))

-- ---- an error

-- ---- pieces

pub none_kept : (kept : List ℕ) → length kept ≡ 0 → kept ≡ []
none_kept [] e = refl
none_kept (b ∷ kept) e = absurd (omega (arith, e))

pub fed : (r next : Reading) (piece : List ℕ) → r.failed ≡ None → next.failed ≡ None → next.room ≡ r.room - length piece → Alike next.room (resumed r.progress (r.kept ++ piece)) (resumed next.progress next.kept)
    → (bytes : List ℕ) → HasRead r bytes → HasRead next (bytes ++ piece)
fed r next piece none still room same bytes h short =
    let len = length-append bytes piece in
    let good : IsGood r bytes = subst (λ (f : Option ImageError). HasReadBy f r bytes) none (h (omega (arith, len, short))) in
    subst (λ (f : Option ImageError). HasReadBy f next (bytes ++ piece)) (sym still) (record {
      room = omega (arith, len, short, good.room, room);
      same = λ more within.
          let all = length-append piece more in
          let rest : r.room - length (piece ++ more) ≡ next.room - length more = omega (arith, all, room) in
          ap snapshot_at (append_assoc bytes piece more)
          ∙ good.same (piece ++ more) (omega (arith, all, within, room, good.room, len, short))
          ∙ ap (λ k. resume k r.progress (r.kept ++ (piece ++ more))) rest
          ∙ ap (resume (next.room - length more) r.progress) (sym (append_assoc r.kept piece more))
          ∙ same more within;
    })

pub failed : (r next : Reading) (piece : List ℕ) (e : ImageError) → r.failed ≡ None → next.failed ≡ Some e → next.room ≡ r.room - length piece → Fails next.room (resumed r.progress (r.kept ++ piece)) e
    → (bytes : List ℕ) → HasRead r bytes → HasRead next (bytes ++ piece)
unfolding image_means
failed r next piece errors.Memory none is room fails bytes h short = subst (λ (f : Option ImageError). HasReadBy f next (bytes ++ piece)) (sym is) tt
failed r next piece (errors.Fault offset kind) none is room fails bytes h short = subst (λ (f : Option ImageError). HasReadBy f next (bytes ++ piece)) (sym is) (λ more fits.
    let len = length-append bytes piece in
    let good : IsGood r bytes = subst (λ (f : Option ImageError). HasReadBy f r bytes) none (h (omega (arith, len, short))) in
    let all = length-append piece more in
    let whole = length-append (bytes ++ piece) more in
    let rest : r.room - length (piece ++ more) ≡ next.room - length more = omega (arith, all, room) in
    let read : snapshot_at ((bytes ++ piece) ++ more) ≡ resumed r.progress (r.kept ++ piece) (next.room - length more) more =
    ap snapshot_at (append_assoc bytes piece more)
    ∙ good.same (piece ++ more) (omega (arith, all, room, good.room, len, whole, fits))
    ∙ ap (λ k. resume k r.progress (r.kept ++ (piece ++ more))) rest
    ∙ ap (resume (next.room - length more) r.progress) (sym (append_assoc r.kept piece more))
    in
    ap (result_map_err (fault_in ((bytes ++ piece) ++ more))) read ∙ fails ((bytes ++ piece) ++ more) more (omega (arith, room, good.room, len, whole, fits)) (omega (arith, room, good.room, len, whole, fits)))

-- What is read of some bytes is read of these and what stands behind them.
module _ (room : ℕ) (p : Option Progress) (bytes behind : List ℕ) where
  behind_them : (q : Option Progress) (front more : List ℕ) → length more ≤ room → resumed q front (room + length behind - length (behind ++ more)) (behind ++ more) ≡ resumed q (front ++ behind) (room - length more) more
  behind_them q front more within =
      let all = length-append behind more in
      let left : room + length behind - length (behind ++ more) ≡ room - length more = omega (arith, all, within) in
      ap (λ k. resume k q (front ++ (behind ++ more))) left ∙ ap (resume (room - length more) q) (sym (append_assoc front behind more))

  pub alike_behind : (q : Option Progress) (kept : List ℕ) → Alike (room + length behind) (resumed p bytes) (resumed q kept) → Alike room (resumed p (bytes ++ behind)) (resumed q (kept ++ behind))
  alike_behind q kept same more within =
      let all = length-append behind more in
      sym (behind_them p bytes more within) ∙ same (behind ++ more) (omega (arith, all, within)) ∙ behind_them q kept more within

  pub fails_behind : (e : ImageError) → Fails (room + length behind) (resumed p bytes) e → Fails room (resumed p (bytes ++ behind)) e
  fails_behind errors.Memory fails = tt
  fails_behind (errors.Fault offset kind) fails = λ start more within whole.
      let all = length-append behind more in
      ap (result_map_err (fault_in start)) (sym (behind_them p bytes more within)) ∙ fails start (behind ++ more) (omega (arith, all, within)) (omega (arith, all, within, whole))

-- what reads alike fails alike
pub fails_alike : (room : ℕ) (p q : Option Progress) (bytes kept : List ℕ) (e : ImageError) → Alike room (resumed p bytes) (resumed q kept) → Fails room (resumed q kept) e → Fails room (resumed p bytes) e
fails_alike room p q bytes kept errors.Memory same fails = tt
fails_alike room p q bytes kept (errors.Fault offset kind) same fails = λ start more within whole.
    ap (result_map_err (fault_in start)) (same more within) ∙ fails start more within whole

-- a piece of which the first bytes were read
module _ (room : ℕ) (p q : Option Progress) (kept first behind piece mid : List ℕ) (all : piece ≡ first ++ behind) where
  joined : kept ++ piece ≡ (kept ++ first) ++ behind
  joined = ap (λ (t : List ℕ). kept ++ t) all ∙ sym (append_assoc kept first behind)

  -- a fault of them is one of the piece
  pub fails_first : (e : ImageError) → Fails (room + length behind) (resumed p (kept ++ first)) e → Fails room (resumed p (kept ++ piece)) e
  fails_first e fails = subst (λ (t : List ℕ). Fails room (resumed p t) e) (sym joined) (fails_behind room p (kept ++ first) behind e fails)

  module _ (same : Alike (room + length behind) (resumed p (kept ++ first)) (resumed q mid)) (r : Result (Unit {0}) ImageError) where
    piece_alike : Alike room (resumed p (kept ++ piece)) (resumed q (mid ++ behind))
    piece_alike = subst (λ (t : List ℕ). Alike room (resumed p t) (resumed q (mid ++ behind))) (sym joined) (alike_behind room p (kept ++ first) behind q mid same)

    pub same_piece : (s : Option Progress) (after : List ℕ) → OnOk r (Alike room (resumed q (mid ++ behind)) (resumed s after)) → OnOk r (Alike room (resumed p (kept ++ piece)) (resumed s after))
    same_piece s after = by r where
      by : (r : Result (Unit {0}) ImageError) → OnOk r (Alike room (resumed q (mid ++ behind)) (resumed s after)) → OnOk r (Alike room (resumed p (kept ++ piece)) (resumed s after))
      by (Ok u) h = λ more within. piece_alike more within ∙ h more within
      by (Err e) h = tt

    pub fails_piece : IfErr r (Fails room (resumed q (mid ++ behind))) → IfErr r (Fails room (resumed p (kept ++ piece)))
    fails_piece = by r where
      by : (r : Result (Unit {0}) ImageError) → IfErr r (Fails room (resumed q (mid ++ behind))) → IfErr r (Fails room (resumed p (kept ++ piece)))
      by (Ok u) h = tt
      by (Err e) h = fails_alike room p q (kept ++ piece) (mid ++ behind) e piece_alike h

-- bytes that end the first of a piece, with the others, are the piece from them on
pub in_place : (piece kept end : List ℕ) (taken size : ℕ) → taken ≤ length piece → end ≡ kept → size ≡ length kept → ends_with eqb (take taken piece) end ≡ true
    → take (length piece - (taken - size)) (drop (taken - size) piece) ≡ kept ++ drop taken piece
in_place piece kept end taken size within is count ends =
    let front = take (length (take taken piece) - length end) (take taken piece) in
    let split : take taken piece ≡ front ++ end = (ends_is Decides-eqb (take taken piece) end true (sym ends)).0 refl in
    let whole : take taken piece ≡ front ++ kept = split ∙ ap (λ (t : List ℕ). front ++ t) is in
    let all : piece ≡ front ++ (kept ++ drop taken piece) = sym (take-append-drop taken piece) ∙ ap (λ (t : List ℕ). t ++ drop taken piece) whole ∙ append_assoc front kept (drop taken piece) in
    let from : taken - size ≡ length front = omega (arith, count, length-take-le taken piece within, ap length whole, length-append front kept) in
    take_rest piece (taken - size) ∙ ap (λ n. drop n piece) from ∙ ap (drop (length front)) all ∙ drop-append_seam front (kept ++ drop taken piece)

-- the end
pub finish_failed : (r : Reading) (e : ImageError) → r.failed ≡ Some e → (bytes : List ℕ) → HasRead r bytes → length bytes ≤ max_image → GivesUnless errors.Memory (Err e) (image_means bytes)
finish_failed r e is bytes h short = by e (subst (λ (f : Option ImageError). HasReadBy f r bytes) is (h short)) where
  by : (e : ImageError) → HasReadBy (Some e) r bytes → GivesUnless errors.Memory (Err e) (image_means bytes)
  by errors.Memory was = λ no_memory. absurd (no_memory refl)
  by (errors.Fault offset kind) was = λ other. let same = append-nil bytes in sym (ap image_means same) ∙ was [] (omega (arith, ap length same, short))

read_all : (r : Reading) (bytes : List ℕ) → r.failed ≡ None → HasRead r bytes → length bytes ≤ max_image → (length bytes + r.room ≡ max_image) × (snapshot_at bytes ≡ resume r.room r.progress r.kept)
read_all r bytes none h short =
    let good : IsGood r bytes = subst (λ (f : Option ImageError). HasReadBy f r bytes) none (h short) in
    let rest : r.room - 0 ≡ r.room = omega arith in
    (good.room, ap snapshot_at (sym (append-nil bytes)) ∙ good.same [] (omega arith) ∙ ap (λ k. resume k r.progress (r.kept ++ [])) rest ∙ ap (resume r.room r.progress) (append-nil r.kept))

pub finish_ok : (r : Reading) (snap : Snap) → r.failed ≡ None → resume r.room r.progress r.kept ≡ Ok snap → (bytes : List ℕ) → HasRead r bytes → length bytes ≤ max_image → image_means bytes ≡ Ok snap
unfolding image_means
finish_ok r snap none is bytes h short = ap (result_map_err (fault_in bytes)) ((read_all r bytes none h short).1 ∙ is)

pub finish_flaw : (r : Reading) (f : Flaw) → r.failed ≡ None → resume r.room r.progress r.kept ≡ Err f → (bytes : List ℕ) → HasRead r bytes → length bytes ≤ max_image
    → image_means bytes ≡ Err (errors.Fault (max_image - r.room - f.left) f.kind)
unfolding image_means
finish_flaw r f none is bytes h short =
    let all = read_all r bytes none h short in
    let offset : length bytes - f.left ≡ max_image - r.room - f.left = omega (arith, all.0) in
    ap (result_map_err (fault_in bytes)) (all.1 ∙ is) ∙ ap (λ n. Err (errors.Fault n f.kind)) offset
