-- Paper 01's limits, each named once, as request #108 moved the first two. Assumes nothing.
use Rattle.std.specs.Prelude.{ℕ}

-- A head, and a trailer, without its end is refused at this many bytes. The head buffer and the question buffer have as many at least:
-- a signing string is never longer than its head, nor is the one over Sig1. Request #108: "Head and trailer limit to 32,768", "head and question holds to 32,768".
abbrev pub head_limit : ℕ
head_limit = 32_768

-- the most fields of a head; request #108: "fields to 128"
abbrev pub field_limit : ℕ
field_limit = 128

-- "at most 32 in all": the names that a signature lists
abbrev pub name_limit : ℕ
name_limit = 32

-- "1 to 64 letters, digits": the id of an injection
abbrev pub id_limit : ℕ
id_limit = 64

-- "1 to 12 digits": a time in seconds
abbrev pub time_digits : ℕ
time_digits = 12

-- "N from 1 to 65,536": the size of a block
abbrev pub block_limit : ℕ
block_limit = 65_536

-- the most digits of a block size: 65,536 has five
abbrev pub block_digits : ℕ
block_digits = 5

-- a chunk line without its end is refused at this many bytes
abbrev pub line_limit : ℕ
line_limit = 128

-- "1 to 8 hex digits": a chunk's size
abbrev pub size_digits : ℕ
size_digits = 8

-- the most bytes that a body may have
abbrev pub body_limit : ℕ
body_limit = 4_294_967_296

-- "1 to 10 digits": the size of a body, as `X-Ouinet-Data-Size` writes it (request #101)
abbrev pub data_size_digits : ℕ
data_size_digits = 10

-- "0 to 16 records": the key ring
abbrev pub ring_limit : ℕ
ring_limit = 16
