-- What is kept in a text means the same where the text goes on, and where it stands behind another.
use Rattle.std.proofs.Common.{◌≡◌, ◌∙◌, ℕ, ◌+◌, ◌*◌, ◌≤◌, Bool, true, false, List, ◌++◌, length, take, drop, slice_index_or, refl, ap, arith, get_or-append-add}
use Rattle.std.proofs.Math.Seq.{drop-append-add}
use Rattle.std.proofs.lemmas.List.{drop-append-le, get_or_append_left, length-drop, take-append-le}
use Rattle.gufi_base.specs.declared.extras.Extras.{Extras}
use Rattle.gufi_base.specs.Extras.{keeps_xattrs, keeps_acl, size_at, sized_length, sized_bytes, kept_xattrs, acl_place, kept_acl, kept_size, AreKept}

size_at-more : (text more : List ℕ) (at : ℕ) → at + 2 ≤ length text → size_at (text ++ more) at ≡ size_at text at
size_at-more text more at within =
    let low : slice_index_or (text ++ more) at 0 ≡ slice_index_or text at 0 = get_or_append_left text more 0 at (omega (arith, within)) in
    let high : slice_index_or (text ++ more) (at + 1) 0 ≡ slice_index_or text (at + 1) 0 = get_or_append_left text more 0 (at + 1) (omega (arith, within)) in
    λ i. low i + 256 * high i

sized_length-more : (text more : List ℕ) (at : ℕ) (some : Bool) → at + sized_length text at some ≤ length text → sized_length (text ++ more) at some ≡ sized_length text at some
sized_length-more text more at false kept = refl
sized_length-more text more at true kept = ap (λ n. 2 + n) (size_at-more text more at (omega (arith, kept)))

pub sized_bytes-more : (text more : List ℕ) (at : ℕ) (some : Bool) → at + sized_length text at some ≤ length text → sized_bytes (text ++ more) at some ≡ sized_bytes text at some
sized_bytes-more text more at false kept = refl
sized_bytes-more text more at true kept =
    ap (λ n. take n (drop (at + 2) (text ++ more))) (size_at-more text more at (omega (arith, kept)))
    ∙ ap (take (size_at text at)) (drop-append-le (at + 2) text more (omega (arith, kept)))
    ∙ take-append-le (size_at text at) (drop (at + 2) text) more (omega (arith, kept, length-drop (at + 2) text))

-- what both take is what each takes
front_kept : (text : List ℕ) (at : ℕ) (extras : Extras) → AreKept text at extras → at + sized_length text at (keeps_xattrs extras) ≤ length text
front_kept text at extras kept = omega (arith, kept)

back_kept : (text : List ℕ) (at : ℕ) (extras : Extras) → AreKept text at extras
    → acl_place text at extras + sized_length text (acl_place text at extras) (keeps_acl extras) ≤ length text
back_kept text at extras kept = omega (arith, kept)

acl_place-more : (text more : List ℕ) (at : ℕ) (extras : Extras) → AreKept text at extras → acl_place (text ++ more) at extras ≡ acl_place text at extras
acl_place-more text more at extras kept = ap (λ n. at + n) (sized_length-more text more at (keeps_xattrs extras) (front_kept text at extras kept))

pub kept_size-more : (text more : List ℕ) (at : ℕ) (extras : Extras) → AreKept text at extras → kept_size (text ++ more) at extras ≡ kept_size text at extras
kept_size-more text more at extras kept =
    let front : sized_length (text ++ more) at (keeps_xattrs extras) ≡ sized_length text at (keeps_xattrs extras) =
    sized_length-more text more at (keeps_xattrs extras) (front_kept text at extras kept) in
    let back : sized_length (text ++ more) (acl_place (text ++ more) at extras) (keeps_acl extras) ≡ sized_length text (acl_place text at extras) (keeps_acl extras) =
    ap (λ n. sized_length (text ++ more) n (keeps_acl extras)) (acl_place-more text more at extras kept)
    ∙ sized_length-more text more (acl_place text at extras) (keeps_acl extras) (back_kept text at extras kept) in
    λ i. front i + back i

pub kept_xattrs-more : (text more : List ℕ) (at : ℕ) (extras : Extras) → AreKept text at extras → kept_xattrs (text ++ more) at extras ≡ kept_xattrs text at extras
kept_xattrs-more text more at extras kept = sized_bytes-more text more at (keeps_xattrs extras) (front_kept text at extras kept)

pub kept_acl-more : (text more : List ℕ) (at : ℕ) (extras : Extras) → AreKept text at extras → kept_acl (text ++ more) at extras ≡ kept_acl text at extras
kept_acl-more text more at extras kept =
    ap (λ n. sized_bytes (text ++ more) n (keeps_acl extras)) (acl_place-more text more at extras kept)
    ∙ sized_bytes-more text more (acl_place text at extras) (keeps_acl extras) (back_kept text at extras kept)

size_at-behind : (text own : List ℕ) (at : ℕ) → size_at (text ++ own) (length text + at) ≡ size_at own at
size_at-behind text own at =
    let low : slice_index_or (text ++ own) (length text + at) 0 ≡ slice_index_or own at 0 = get_or-append-add text own at 0 in
    let far : length text + at + 1 ≡ length text + (at + 1) = omega arith in
    let high : slice_index_or (text ++ own) (length text + at + 1) 0 ≡ slice_index_or own (at + 1) 0 = ap (λ n. slice_index_or (text ++ own) n 0) far ∙ get_or-append-add text own (at + 1) 0 in
    λ i. low i + 256 * high i

sized_length-behind : (text own : List ℕ) (at : ℕ) (some : Bool) → sized_length (text ++ own) (length text + at) some ≡ sized_length own at some
sized_length-behind text own at false = refl
sized_length-behind text own at true = ap (λ n. 2 + n) (size_at-behind text own at)

sized_bytes-behind : (text own : List ℕ) (at : ℕ) (some : Bool) → sized_bytes (text ++ own) (length text + at) some ≡ sized_bytes own at some
sized_bytes-behind text own at false = refl
sized_bytes-behind text own at true =
    let far : length text + at + 2 ≡ length text + (at + 2) = omega arith in
    ap (λ n. take n (drop (length text + at + 2) (text ++ own))) (size_at-behind text own at)
    ∙ ap (λ n. take (size_at own at) (drop n (text ++ own))) far ∙ ap (take (size_at own at)) (drop-append-add text own (at + 2))

acl_place-behind : (text own : List ℕ) (at : ℕ) (extras : Extras) → acl_place (text ++ own) (length text + at) extras ≡ length text + acl_place own at extras
acl_place-behind text own at extras =
    let front : sized_length (text ++ own) (length text + at) (keeps_xattrs extras) ≡ sized_length own at (keeps_xattrs extras) = sized_length-behind text own at (keeps_xattrs extras) in
    omega (arith, front)

pub kept_size-behind : (text own : List ℕ) (at : ℕ) (extras : Extras) → kept_size (text ++ own) (length text + at) extras ≡ kept_size own at extras
kept_size-behind text own at extras =
    let front : sized_length (text ++ own) (length text + at) (keeps_xattrs extras) ≡ sized_length own at (keeps_xattrs extras) = sized_length-behind text own at (keeps_xattrs extras) in
    let back : sized_length (text ++ own) (acl_place (text ++ own) (length text + at) extras) (keeps_acl extras) ≡ sized_length own (acl_place own at extras) (keeps_acl extras) =
    ap (λ n. sized_length (text ++ own) n (keeps_acl extras)) (acl_place-behind text own at extras) ∙ sized_length-behind text own (acl_place own at extras) (keeps_acl extras) in
    λ i. front i + back i

pub kept_xattrs-behind : (text own : List ℕ) (at : ℕ) (extras : Extras) → kept_xattrs (text ++ own) (length text + at) extras ≡ kept_xattrs own at extras
kept_xattrs-behind text own at extras = sized_bytes-behind text own at (keeps_xattrs extras)

pub kept_acl-behind : (text own : List ℕ) (at : ℕ) (extras : Extras) → kept_acl (text ++ own) (length text + at) extras ≡ kept_acl own at extras
kept_acl-behind text own at extras =
    ap (λ n. sized_bytes (text ++ own) n (keeps_acl extras)) (acl_place-behind text own at extras) ∙ sized_bytes-behind text own (acl_place own at extras) (keeps_acl extras)
