-- What an answer's meaning says of its parts. Assumes nothing.
use mathlib.Core.Bool.{Bool, true, false, ◌&&◌, true≢false}
use mathlib.Core.List.{List, []}
use mathlib.Core.Path.{◌≡◌, refl, sym, ap, ◌∙◌}
use Prim.Native.Nat.{ℕ}
use Rattle.std.specs.Prelude.{Option, None, Some, MatchOption}
use Rattle.std.specs.Option.{is_some, option_map}
use Rattle.stream.specs.Lines.{Field, is_field_line, field_of}
use Rattle.field_lines.specs.Entries.{entry_name, entry_value, entry_field}
use Rattle.field_lines.specs.Reading.{answer, ReadsField}
use Rattle.field_lines.specs.declared.entry.Entry.{Entry}

-- there is something just where it is good, and it says what it is to say
pub tells : {A B : Type 0} (f : A → B) (r : Option A) (t : Bool) (b : B) → option_map f r ≡ answer t b → MatchOption r (t ≡ false) (λ a. (t ≡ true) × (f a ≡ b))
unfolding answer
tells f None true b e = absurd (cc)
tells f None false b e = refl
tells f (Some a) true b e = (refl, cc)
tells f (Some a) false b e = absurd (cc)

pub line_tells : {text line : List ℕ} (r : Option Entry) → ReadsField text line r → MatchOption r (is_field_line line ≡ false) (λ e. (is_field_line line ≡ true) × (entry_field text e ≡ field_of line))
line_tells {text} {line} r x = tells (entry_field text) r (is_field_line line) (field_of line) x.meaning

pub line_some : {text line : List ℕ} (r : Option Entry) → ReadsField text line r → is_some r ≡ is_field_line line
line_some None x = sym (line_tells None x)
line_some (Some e) x = sym (line_tells (Some e) x).0

-- a test of the entry, if there is one
pub line_test : {line : List ℕ} (r : Option Entry) (test : List ℕ → Bool) (b : Bool) → ReadsField line line r → MatchOption r (b ≡ false) (λ e. b ≡ test (entry_name line e)) → b ≡ (is_field_line line && test (field_of line).name)
unfolding entry_field
line_test {line} None test b x h = let t : is_field_line line ≡ false = line_tells None x in rw t h
line_test {line} (Some e) test b x h =
    let t = line_tells (Some e) x in
    rw (t.0, ← t.1) h

-- the value at the entry's places, if there is one
pub line_value : {line : List ℕ} (r : Option Entry) (v : List ℕ) → ReadsField line line r → MatchOption r (v ≡ []) (λ e. v ≡ entry_value line e) → is_field_line line ≡ true → v ≡ (field_of line).value
unfolding entry_field
line_value None v x h g = absurd (true≢false (sym g ∙ line_tells None x))
line_value (Some e) v x h g = h ∙ ap (λ (f : Field). f.value) (line_tells (Some e) x).1
