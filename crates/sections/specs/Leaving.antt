-- What a stream leaves in something that is written to while it is read: the same recursion as the plain reading's (Reading.antt), with
-- that something handed on in place of the log. It is of any type B; how a section, a question and a last word change it, a protocol says
-- by its `Effects`. Nothing here knows how the bytes arrive or who gathers them. Assumes nothing.
use Rattle.std.specs.Prelude.{Bool, true, false, List, [], ◌∷◌, ℕ, zero, suc, length}
use Rattle.sections.specs.Reading.{Grant, granted, final, Verdict, go, tell, ask, stop, Rules, Cut, uncut, cut_at, cut}

-- `gather c l`: the bytes l came, of a section in the context c. `ask q`: the question q was asked. `finish c l w`: the last word w was
-- said of a section in the context c, of which the bytes l had come.
pub record Effects (C Q L B : Type 0) : Type 0 where
  pub gather : C → List ℕ → B → B
  pub ask : Q → B → B
  pub finish : C → List ℕ → L → B → B

module _ {C Q E L B : Type 0} (R : Rules C Q E L) (F : Effects C Q L B) where
  -- The whole section l gave a question, which takes the next answer, if there is one; `next` goes on.
  abbrev pub after_answer : C → List ℕ → Grant C E L → List Bool → B → (C → List Bool → B → B) → B
  after_answer c l y [] b next = b
  after_answer c l (granted e c') (true ∷ answers) b next = next c' answers b
  after_answer c l (final w) (true ∷ answers) b next = F.finish c l w b
  after_answer c l y (false ∷ answers) b next = F.finish c l R.denied b

  -- The whole section l was judged; `next` goes on.
  abbrev pub after_verdict : C → List ℕ → Verdict C Q E L → List Bool → B → (C → List Bool → B → B) → B
  after_verdict c l (go c') answers b next = next c' answers b
  after_verdict c l (tell e c') answers b next = next c' answers b
  after_verdict c l (ask q y) answers b next = after_answer c l y answers (F.ask q b) next
  after_verdict c l (stop w) answers b next = F.finish c l w b

  -- The bytes ran out, where l had come of a section: that is a last word only where the end was told.
  abbrev pub out_of_bytes : C → List ℕ → Bool → B → B
  out_of_bytes c l true b = F.finish c l R.unfinished b
  out_of_bytes c l false b = b

  -- One section of the bytes bs: the shortest whole one is gathered and judged; without a whole one all of them are gathered.
  abbrev pub after_section : C → List ℕ → List Bool → Bool → B → Cut → (C → List ℕ → List Bool → B → B) → B
  after_section c bs answers told b uncut next = out_of_bytes c bs told (F.gather c bs b)
  after_section c bs answers told b (cut_at f r) next =
      after_verdict c f (R.judge c f) answers (F.gather c f b) (λ c' answers' b'. next c' r answers' b')

  -- At most k sections.
  unfoldable pub after_sections : ℕ → C → List ℕ → List Bool → Bool → B → B
  after_sections zero c bs answers told b = out_of_bytes c bs told (F.gather c bs b)
  after_sections (suc k) c bs answers told b =
      after_section c bs answers told b (cut (R.whole c) bs) (λ c' r answers' b'. after_sections k c' r answers' told b')

  -- b after a stream: by its bytes, the answers in their order, and whether the end was told. A section has one byte or more, so there
  -- are no more sections than bytes.
  unfoldable pub leaving : C → List ℕ → List Bool → Bool → B → B
  leaving start bs answers told b = after_sections (length bs) start bs answers told b
