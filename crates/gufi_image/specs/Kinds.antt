-- The faults of an image in words.
use Rattle.std.specs.Prelude.{ℕ, List, ◌++◌, codes, decimal}
use Rattle.gufi_image.specs.declared.fault.ImageKind.{ImageKind}
use Rattle.gufi_image.specs.declared.fault.ImageKind.TheVariants as kinds

abbrev pub image_kind_text : ImageKind → List ℕ
image_kind_text kinds.Magic = codes "Magic"
image_kind_text kinds.Cut = codes "Cut"
image_kind_text kinds.Number = codes "Number"
image_kind_text kinds.Parent = codes "Parent"
image_kind_text kinds.Name = codes "Name"
image_kind_text kinds.Order = codes "Order"
image_kind_text kinds.Trailing = codes "Trailing"
image_kind_text kinds.Roll = codes "Roll"
image_kind_text (kinds.TooMany limit) = codes "TooMany " ++ decimal limit
