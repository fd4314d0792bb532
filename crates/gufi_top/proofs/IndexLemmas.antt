-- Lemmas on the file of an index.
use Rattle.std.proofs.Common.{◌≡◌, ℕ, ◌≤◌, List, ◌++◌, length, take, refl, sym, ap, ◌∙◌, append-nil, true, false}
use Rattle.std.specs.Prelude.{Bool, Option, Some, None, Result, Ok, Err}
use Rattle.std.specs.Io.KnownBytes.{Consumes, IsAtEnd}
use Rattle.std.proofs.lemmas.List.{take-append-le}
use Rattle.gufi_io.specs.Files.{Files, IsReadUpTo}
use Rattle.gufi_base.specs.Basics.{◌>>=◌, result_map_err, GivesUnless}
use Rattle.gufi_base.specs.Limits.{max_image}
use Rattle.gufi_tree.specs.Tree.{Directory}
use Rattle.gufi_snap.specs.Snap.{Snap}
use Rattle.gufi_image.specs.Reading.{image_means}
use Rattle.gufi_image.specs.Reader.{Reading, HasRead}
use Rattle.gufi_image.specs.declared.fault.ImageKind.{ImageKind}
use Rattle.gufi_image.specs.declared.fault.ImageError.TheVariants as errors
use Rattle.gufi_top.specs.declared.halt.Halt.{Halt}
use Rattle.gufi_top.specs.declared.index.Indexed.{Indexed}
use Rattle.gufi_top.specs.Reasons.{Reason, held, file_in, trace_in, image_reason, image_within, image_in, rolled_under, traced_in, is_image, index_by, index_in, told_in}
use Rattle.gufi_top.specs.Calls.{Gives, GivesOver}
use Rattle.gufi_top.specs.Views.{bytes_view}
use Rattle.gufi_top.specs.Fed.{BeginsAs, HasReadImage, IsImageFedUpTo, HasBytes}
use Rattle.gufi_io.proofs.Fronts.{upto_more}
use Rattle.gufi_top.proofs.ReadingLemmas.{held_bytes, given_as, stays}
use Rattle.gufi_top.proofs.StepLemmas.{over_ok, over_err, given_over}

-- ---- what a file begins with

pub front_more : (told : Option Files) (name front piece buf : List ℕ) (left left' : Option (List ℕ)) (n : ℕ) → IsReadUpTo told name front left → Consumes left left' (take n buf) → piece ≡ take n buf
    → IsReadUpTo told name (front ++ piece) left'
front_more told name front piece buf left left' n upto more is = upto_more told name front piece left left' upto (rw is more)

-- six bytes tell
long_tells : (front rest : List ℕ) → 6 ≤ length front → is_image (front ++ rest) ≡ is_image front
unfolding is_image
long_tells front rest long = rw (take-append-le 6 front rest long) refl

pub begins_long : (told : Option Files) (name front : List ℕ) (left : Option (List ℕ)) → IsReadUpTo told name front left → 6 ≤ length front → BeginsAs told name (is_image front)
begins_long None name front left upto long = tt
begins_long (Some files) name front left upto long = (front ++ upto.0, upto.2, long_tells front upto.0 long)

-- at its end all of the file is held
whole_held : (files : Files) (name front : List ℕ) (left : Option (List ℕ)) → IsReadUpTo (Some files) name front left → IsAtEnd left → files name ≡ Some front
whole_held files name front None upto end = absurd (let e = upto.1 in cc)
whole_held files name front (Some xs) upto end =
    let same : xs ≡ upto.0 = (let e = upto.1 in cc) in
    upto.2 ∙ ap (λ (t : List ℕ). Some (front ++ t)) (sym same ∙ end) ∙ ap Some (append-nil front)

pub begins_whole : (told : Option Files) (name front : List ℕ) (left : Option (List ℕ)) → IsReadUpTo told name front left → IsAtEnd left → BeginsAs told name (is_image front)
begins_whole None name front left upto end = tt
begins_whole (Some files) name front left upto end = (front, whole_held files name front left upto end, refl)

pub ruleset fronts = (front_more, begins_long, begins_whole)

-- ---- an image

pub image_from_front : (told : Option Files) (name front : List ℕ) (left : Option (List ℕ)) (reader : Reading) → HasRead reader front → IsReadUpTo told name front left → IsImageFedUpTo told name left reader (length front)
image_from_front told name front left reader read upto = record { bytes = front; taken = read; count = refl; upto = upto }

-- the file's bytes are within the limit
image_is : (files : Files) (name bytes : List ℕ) → files name ≡ Some bytes → length bytes ≤ max_image → image_in name files ≡ result_map_err (image_reason name) (image_means bytes)
unfolding image_in image_within
image_is files name bytes held short = ap (λ (r : Result (List ℕ) Reason). r >>= image_within name) (held_bytes max_image files name bytes held short)

pub image_ok : (told : Option Files) (name : List ℕ) (reader : Reading) (snap : Snap) → HasReadImage told name reader
    → ((bytes : List ℕ) → HasRead reader bytes → length bytes ≤ max_image → GivesUnless errors.Memory (Ok snap) (image_means bytes)) → GivesOver told (λ (s : Snap). s) (Ok snap) (image_in name)
image_ok None name reader snap file read = tt
image_ok (Some files) name reader snap file read = image_is files name file.0 file.1 file.2 ∙ ap (result_map_err (image_reason name)) (read file.0 file.3 file.2)

pub image_refused : (told : Option Files) (name : List ℕ) (reader : Reading) (offset : ℕ) (kind : ImageKind) (r : Result Snap Halt) → HasReadImage told name reader
    → ((bytes : List ℕ) → HasRead reader bytes → length bytes ≤ max_image → GivesUnless errors.Memory (Err (errors.Fault offset kind)) (image_means bytes))
    → Gives (λ x. x) r (Err (image_reason name (errors.Fault offset kind))) → GivesOver told (λ (s : Snap). s) r (image_in name)
image_refused None name reader offset kind r file read told = tt
image_refused (Some files) name reader offset kind r file read told =
    given_as (λ s. s) r (image_reason name (errors.Fault offset kind)) _ told (image_is files name file.0 file.1 file.2 ∙ ap (result_map_err (image_reason name)) (read file.0 file.3 file.2 (λ e. absurd cc)))

pub image_err : (told : Option Files) (name : List ℕ) (e : Halt) → GivesOver told bytes_view (Err e) (file_in max_image name) → GivesOver told (λ (s : Snap). s) (Err e) (image_in name)
unfolding image_in
image_err told name e read = over_err told bytes_view (λ s. s) e (file_in max_image name) (λ b files. image_within name b) read

pub ruleset images = (image_from_front, image_ok, image_refused, image_err)

-- ---- a trace that is rolled up

pub traced_ok : (told : Option Files) (delim limit : ℕ) (name : List ℕ) (tree : List Directory) (r : Result Snap Halt)
    → GivesOver {A = List Directory} told (λ t. t) (Ok tree) (trace_in delim name) → Gives (λ (s : Snap). s) r (rolled_under limit tree) → GivesOver told (λ (s : Snap). s) r (traced_in delim limit name)
unfolding traced_in
traced_ok told delim limit name tree r read given = over_ok told (λ t. t) (λ s. s) tree r (trace_in delim name) (λ t files. rolled_under limit t) read (given_over told (λ s. s) r _ given)

pub traced_err : (told : Option Files) (delim limit : ℕ) (name : List ℕ) (e : Halt)
    → GivesOver {A = List Directory} told (λ t. t) (Err e) (trace_in delim name) → GivesOver told (λ (s : Snap). s) (Err e) (traced_in delim limit name)
unfolding traced_in
traced_err told delim limit name e read = over_err told (λ t. t) (λ s. s) e (trace_in delim name) (λ t files. rolled_under limit t) read

pub ruleset trace_files = (traced_ok, traced_err)

-- ---- the index that the file's front tells

pub index_is : (files : Files) (delim limit : ℕ) (name bytes : List ℕ) (image : Bool) → files name ≡ Some bytes → is_image bytes ≡ image → index_in delim limit name files ≡ index_by image delim limit name files
unfolding index_in
index_is files delim limit name bytes image holds is = rw (holds, is) refl

pub index_of_image : (told : Option Files) (delim limit : ℕ) (name front : List ℕ) (r : Result Snap Halt) → BeginsAs told name (is_image front) → is_image front ≡ true
    → GivesOver told (λ (s : Snap). s) r (image_in name) → GivesOver told (λ (s : Snap). s) r (index_in delim limit name)
index_of_image None delim limit name front r begins is given = tt
index_of_image (Some files) delim limit name front r begins is given = rw (index_is files delim limit name begins.0 true begins.1 (begins.2 ∙ is)) given

pub index_of_trace : (told : Option Files) (delim limit : ℕ) (name front : List ℕ) (r : Result Snap Halt) → BeginsAs told name (is_image front) → is_image front ≡ false
    → GivesOver told (λ (s : Snap). s) r (traced_in delim limit name) → GivesOver told (λ (s : Snap). s) r (index_in delim limit name)
index_of_trace None delim limit name front r begins is given = tt
index_of_trace (Some files) delim limit name front r begins is given = rw (index_is files delim limit name begins.0 false begins.1 (begins.2 ∙ is)) given

pub ruleset index_files = (index_of_image, index_of_trace)

pub index_unread : (told : Option Files) (delim limit : ℕ) (name : List ℕ) (e : Halt)
    → GivesOver told bytes_view (Err e) (λ files. held files name) → GivesOver {A = Snap} told (λ s. s) (Err e) (index_in delim limit name)
unfolding index_in
index_unread None delim limit name e read = tt
index_unread (Some files) delim limit name e read = stays e (held files name) _ read (λ why is. rw is refl)

pub ruleset unread = index_unread

-- ---- and whether it is an image, and how many bytes it has

pub told_ok : (told : Option Files) (delim limit : ℕ) (name : List ℕ) (image : Bool) (count : ℕ) (snap : Snap) → BeginsAs told name image → HasBytes told name count
    → GivesOver {A = Snap} told (λ s. s) (Ok snap) (index_in delim limit name) → GivesOver told (λ (i : Indexed). i) (Ok (record { image = image; bytes = count; snap = snap })) (told_in delim limit name)
unfolding told_in
told_ok None delim limit name image count snap begins has given = tt
told_ok (Some files) delim limit name image count snap begins has given =
    let same : begins.0 ≡ has.0 = (let one = begins.1 in let other = has.1 in cc) in
    let long : length begins.0 ≡ count = ap (λ (bytes : List ℕ). length bytes) same ∙ sym has.2 in
    rw (begins.1, given, begins.2, long) refl

pub told_err : (told : Option Files) (delim limit : ℕ) (name : List ℕ) (image : Bool) (e : Halt) → BeginsAs told name image
    → GivesOver {A = Snap} told (λ s. s) (Err e) (index_in delim limit name) → GivesOver {A = Indexed} told (λ i. i) (Err e) (told_in delim limit name)
unfolding told_in
told_err None delim limit name image e begins given = tt
told_err (Some files) delim limit name image e begins given = stays e (index_in delim limit name files) _ given (λ why is. rw (begins.1, is) refl)

pub told_unread : (told : Option Files) (delim limit : ℕ) (name : List ℕ) (e : Halt)
    → GivesOver told bytes_view (Err e) (λ files. held files name) → GivesOver {A = Indexed} told (λ i. i) (Err e) (told_in delim limit name)
unfolding told_in
told_unread None delim limit name e read = tt
told_unread (Some files) delim limit name e read = stays e (held files name) _ read (λ why is. rw is refl)

pub ruleset told = (told_ok, told_err, told_unread)
