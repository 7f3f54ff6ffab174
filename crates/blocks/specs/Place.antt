-- The places of blocks, in the 64 bits that the code has for them. Assumes nothing.
use Rattle.std.specs.Prelude.{ℕ, min}
use Rattle.stream.specs.Blocks.{offset_of}
use Rattle.blocks.specs.declared.offsets.BlockNumber.{BlockNumber}
use Rattle.blocks.specs.declared.offsets.ByteOffset.{ByteOffset}

-- the largest number of 64 bits
abbrev pub largest : ℕ
largest = 0xffff_ffff_ffff_ffff

-- "Offset is i times N". A body within its limit has no offset near the largest number: only a state that no stream
-- leads to has a product above it, and its offset is that number.
unfoldable pub offset_at : BlockNumber → ℕ → ByteOffset
offset_at i N = record { 0 = min (offset_of i.0 N) largest }
