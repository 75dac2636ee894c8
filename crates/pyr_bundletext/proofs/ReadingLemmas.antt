-- The loop over the lines of a text.
use Rattle.std.proofs.Common.{◌≡◌, ◌≢◌, ℕ, ◌+◌, ◌≤◌, true, false, List, [], ◌∷◌, ◌++◌, length, Some, None, Ok, Err, refl, sym, ap, subst, ◌∙◌, arith}
use Rattle.std.specs.Prelude.{◌==◌, nat_lt, ◌&&◌}
use Rattle.std.proofs.lemmas.List.{append_assoc, append-nil, length-append}
use Rattle.std.proofs.lemmas.List.Elements.{All-nil}
use Rattle.pyr_num.specs.declared.limits.TheConstants.Limits.{LEAST_LENGTH, LENGTH}
use Rattle.pyr_decimal.proofs.Choices.{both}
use Rattle.pyr_bundle.specs.declared.raw_datum.RawDatum.{RawDatum}
use Rattle.pyr_bundle.specs.Raw.{IsTaskWithinLimits}
use Rattle.pyr_bundletext.specs.declared.line.Line.{Line}
use Rattle.pyr_bundletext.specs.declared.line.Line.TheVariants.{Pyrros, Processors, Datum, Task, Reads, Writes, Plain, Loop, Done, End, Print, Channel, Processor, Instr, Stop}
use Rattle.pyr_bundletext.specs.declared.line_fault.LineFault.{LineFault}
use Rattle.pyr_bundletext.specs.declared.line_fault.LineFault.TheVariants as faults
use Rattle.pyr_bundletext.specs.declared.stage.Stage.{Stage}
use Rattle.pyr_bundletext.specs.declared.stage.Stage.TheVariants as stages
use Rattle.pyr_bundletext.specs.Line.{line_text, text_said}
use Rattle.pyr_bundletext.specs.Earlier.{Said, said_by, stage_of, raw_said}
use Rattle.pyr_bundletext.specs.Faults.{may_stand, passed_limit, is_start, is_versioned, is_data, is_task_begun, is_task_reads, is_code, is_processor, is_stopped, has_tasks, has_prints, has_channels, has_processors}
use Rattle.pyr_bundletext.specs.Answer.{StandsFor, AreFine, IsBadText, IsFirstFault, IsFaultOf}
use Rattle.pyr_bundletext.specs.Reading.{line_of, lacks, IsCut}
use Rattle.pyr_bundletext.specs.Tells.{advance, placed, TakesBytes}
use Rattle.pyr_bundletext.proofs.LineLemmas.{body_text, body_read, read_back, body_lacks, one_cut}
use Rattle.pyr_bundletext.proofs.WordLemmas.{lacks_parts}
use Rattle.pyr_bundletext.proofs.TextLemmas.{IsOrdered, ordered_step, ordered_end, AreBegun}
use Rattle.pyr_bundletext.proofs.LimitLemmas.{AreWithin, within_step, within_end}
use Rattle.pyr_bundletext.proofs.SpelledLemmas.{AreSpelled, spelled_step, spelled_end}

-- what lines say with one more in front
pub said_more : (l : Line) (older : List Line) → said_by (l ∷ older) ≡ advance (said_by older) l
unfolding advance
said_more Pyrros older = refl
said_more (Processors count) older = refl
said_more (Datum name words) older = refl
said_more (Task locals) older = refl
said_more (Reads datums) older = refl
said_more (Writes datums) older = refl
said_more (Plain op) older = refl
said_more (Loop local count) older = refl
said_more Done older = refl
said_more End older = refl
said_more (Print d) older = refl
said_more (Channel c) older = refl
said_more (Processor p) older = refl
said_more (Instr instr) older = refl
said_more Stop older = refl

-- what is said of fine lines

start_ordered : IsOrdered (said_by []) []
start_ordered = record {
  datums = λ l. refl;
  tasks = λ l. refl;
  prints = λ l. refl;
  channels = λ l. refl;
  begun = (refl, refl, refl);
  text_is = refl;
}

pub fine_ordered : (said : List Line) → AreFine said → IsOrdered (said_by said) (text_said said)
fine_ordered [] h = start_ordered
fine_ordered (l ∷ older) h =
    subst (λ (s : Said). IsOrdered s (text_said older ++ line_text l)) (sym (said_more l older))
    (ordered_step (said_by older) (text_said older) l (fine_ordered older h.0) h.1.stands)

start_within : AreWithin (said_by [])
start_within = record {
  processors = omega arith;
  some = λ e. absurd (omega (arith, e));
  tasks = omega arith;
  room = λ e. absurd cc;
  datums = omega arith;
  lengths = All-nil (λ (d : RawDatum). (LEAST_LENGTH ≤ d.length) × (d.length ≤ LENGTH));
  each_task = All-nil IsTaskWithinLimits;
  reads_in_all = omega arith;
  nodes_in_all = omega arith;
  work_in_all = omega arith;
  prints = omega arith;
  channels = omega arith;
  instrs = omega arith;
  locals = omega arith;
  reads = omega arith;
  writes = omega arith;
  nodes = omega arith;
  shallow = (omega arith, omega arith);
}

pub fine_within : (said : List Line) → AreFine said → AreWithin (said_by said)
fine_within [] h = start_within
fine_within (l ∷ older) h =
    subst AreWithin (sym (said_more l older)) (within_step (said_by older) l (fine_within older h.0) h.1.stands h.1.limits)

start_spelled : AreSpelled (said_by [])
start_spelled = record { names = tt; tasks = tt; prints = tt; channels = tt; code = tt; reads = tt; writes = tt; nest = tt; instrs = tt }

pub fine_spelled : (said : List Line) → AreFine said → AreSpelled (said_by said)
fine_spelled [] h = start_spelled
fine_spelled (l ∷ older) h =
    subst AreSpelled (sym (said_more l older)) (spelled_step (said_by older) l (fine_spelled older h.0) h.1.is_line)

-- fine lines up to the last one are the text of what they say
pub fine_end : (said : List Line) → AreFine said → stage_of said ≡ stages.Stopped → StandsFor (text_said said) (raw_said (said_by said))
fine_end said fine e =
    let ordered = fine_ordered said fine in
    let count : (said_by said).processors ≡ length (said_by said).code = subst (λ (x : Stage). AreBegun x (said_by said)) e ordered.begun in
    record {
      written = ordered_end (said_by said) (text_said said) ordered e;
      limits = within_end (said_by said) (fine_within said fine) e count;
      spelled = spelled_end (said_by said) (fine_spelled said fine);
    }

-- The lines before what is left were read.
pub record HasRead (text : List ℕ) (s : Said) (number : ℕ) (rest : List ℕ) : Type 0 where
  pub said : List Line
  pub is_said : s ≡ said_by said
  pub fine : AreFine said
  pub parts : text ≡ text_said said ++ rest
  pub counted : number ≡ length said + 1
  pub within : number + length rest ≤ length text + 1

pub read_start : (text : List ℕ) → HasRead text (said_by []) 1 text
read_start text = record {
  said = [];
  is_said = refl;
  fine = tt;
  parts = refl;
  counted = refl;
  within = omega arith;
}

-- a line that is cut off
cut_length : (line rest behind : List ℕ) → rest ≡ line ++ 10 ∷ behind → length behind + 1 ≤ length rest
cut_length line rest behind e = omega (arith, ap length e, length-append line (10 ∷ behind))

pub read_step : (text : List ℕ) (s : Said) (number : ℕ) (rest line behind : List ℕ) (new : Said)
    → HasRead text s number rest → IsCut rest line behind → TakesBytes s line (Ok new) → HasRead text new (number + 1) behind
read_step text s number rest line behind new h cut takes =
    let l = takes.0 in
    let told = read_back line l takes.1 in
    let e : s ≡ said_by h.said = h.is_said in
    record {
      said = l ∷ h.said;
      is_said = takes.2.2 ∙ ap (λ (x : Said). advance x l) e ∙ sym (said_more l h.said);
      fine = (
        h.fine,
        record {
          is_line = told.0;
          stands = subst (λ (x : Said). may_stand x l ≡ true) e takes.2.0;
          limits = subst (λ (x : Said). passed_limit x l ≡ None) e takes.2.1;
        },
      );
      parts =
          h.parts ∙ ap (λ (r : List ℕ). text_said h.said ++ r) (cut.parts ∙ ap (λ (b : List ℕ). b ++ 10 ∷ behind) told.1)
          ∙ ap (λ (r : List ℕ). text_said h.said ++ r) (sym (append_assoc (body_text l) (10 ∷ []) behind))
          ∙ sym (append_assoc (text_said h.said) (body_text l ++ 10 ∷ []) behind);
      counted = ap (λ (n : ℕ). n + 1) h.counted ∙ (let one : length h.said + 1 + 1 ≡ length (l ∷ h.said) + 1 = omega arith in one);
      within = omega (arith, h.within, cut_length line rest behind cut.parts);
    }

-- no line feed is left, and the last line didn't come
pub read_no_line : (text : List ℕ) (s : Said) (number : ℕ) (rest : List ℕ)
    → HasRead text s number rest → is_stopped s.stage ≡ false → lacks 10 rest ≡ true → IsFirstFault text number IsBadText
read_no_line text s number rest h going none = record {
  older = h.said;
  rest = rest;
  fine = h.fine;
  parts = h.parts;
  number = h.counted;
  faulty = record {
    none = λ l others is begins stands. absurd (let no : lacks 10 (body_text l ++ 10 ∷ others) ≡ true = subst (λ (r : List ℕ). lacks 10 r ≡ true) (begins ∙ append_assoc (body_text l) (10 ∷ []) others) none in lacks_parts (body_text l) others no);
    goes_on = λ e nothing. absurd (let stopped : is_stopped s.stage ≡ true = ap (λ (x : Said). is_stopped x.stage) h.is_said ∙ ap is_stopped e in cc);
  };
}

-- what is wrong with the next line
pub read_faulty : (text : List ℕ) (s : Said) (number : ℕ) (rest line behind : List ℕ) (fault : LineFault)
    → HasRead text s number rest → is_stopped s.stage ≡ false → IsCut rest line behind → TakesBytes s line (Err fault) → IsFaultOf text (placed number fault)
read_faulty text s number rest line behind faults.Text h going cut takes = record {
  older = h.said;
  rest = rest;
  fine = h.fine;
  parts = h.parts;
  number = h.counted;
  faulty = record {
    none = λ l others is begins stands.
        let same = one_cut line (body_text l) behind others cut.first (body_lacks l is) (sym cut.parts ∙ begins ∙ append_assoc (body_text l) (10 ∷ []) others) in
        let read : line_of line ≡ Some l = ap line_of same.0 ∙ body_read l is in
        let no : may_stand s l ≡ false = takes l read in
        absurd (let yes : may_stand s l ≡ true = subst (λ (x : Said). may_stand x l ≡ true) (sym h.is_said) stands in cc);
    goes_on = λ e nothing. absurd (let stopped : is_stopped s.stage ≡ true = ap (λ (x : Said). is_stopped x.stage) h.is_said ∙ ap is_stopped e in cc);
  };
}
read_faulty text s number rest line behind (faults.Limit which) h going cut takes =
    let l = takes.0 in
    let told = read_back line l takes.1 in
    record {
      older = h.said;
      rest = rest;
      fine = h.fine;
      parts = h.parts;
      number = h.counted;
      faulty = record {
        l = l;
        others = behind;
        is_line = told.0;
        begins = cut.parts ∙ ap (λ (b : List ℕ). b ++ 10 ∷ behind) told.1 ∙ sym (append_assoc (body_text l) (10 ∷ []) behind);
        stands = subst (λ (x : Said). may_stand x l ≡ true) h.is_said takes.2.0;
        limit = subst (λ (x : Said). passed_limit x l ≡ Some which) h.is_said takes.2.1;
      };
    }
read_faulty text s number rest line behind faults.Memory h going cut takes = tt

stopped_is : (st : Stage) → is_stopped st ≡ true → st ≡ stages.Stopped
stopped_is stages.Start f = absurd cc
stopped_is stages.Versioned f = absurd cc
stopped_is stages.Data f = absurd cc
stopped_is stages.TaskBegun f = absurd cc
stopped_is stages.TaskReads f = absurd cc
stopped_is stages.Code f = absurd cc
stopped_is stages.Tasks f = absurd cc
stopped_is stages.Prints f = absurd cc
stopped_is stages.Channels f = absurd cc
stopped_is stages.Processor f = absurd cc
stopped_is stages.Stopped f = refl

-- no line stands behind the last one
pub nothing_behind : (s : Said) (l : Line) → s.stage ≡ stages.Stopped → may_stand s l ≡ true → ⊥
nothing_behind s Pyrros e f = absurd (let other : is_start s.stage ≡ false = ap is_start e in cc)
nothing_behind s (Processors count) e f = absurd (let other : is_versioned s.stage ≡ false = ap is_versioned e in cc)
nothing_behind s (Datum name words) e f = absurd (let other : is_data s.stage ≡ false = ap is_data e in cc)
nothing_behind s (Task locals) e f = absurd (let other : has_tasks s.stage ≡ false = ap has_tasks e in cc)
nothing_behind s (Reads datums) e f = absurd (let other : is_task_begun s.stage ≡ false = ap is_task_begun e in cc)
nothing_behind s (Writes datums) e f = absurd (let other : is_task_reads s.stage ≡ false = ap is_task_reads e in cc)
nothing_behind s (Plain op) e f = absurd (let other : is_code s.stage ≡ false = ap is_code e in cc)
nothing_behind s (Loop local count) e f = absurd (let other : is_code s.stage ≡ false = ap is_code e in cc)
nothing_behind s Done e f = absurd (let other : is_code s.stage ≡ false = ap is_code e in let yes = (both (is_code s.stage) (nat_lt 0 (length s.nest.outer)) f).0 in cc)
nothing_behind s End e f = absurd (let other : is_code s.stage ≡ false = ap is_code e in let yes = (both (is_code s.stage) (length s.nest.outer == 0) f).0 in cc)
nothing_behind s (Print d) e f = absurd (let other : has_prints s.stage ≡ false = ap has_prints e in cc)
nothing_behind s (Channel c) e f = absurd (let other : has_channels s.stage ≡ false = ap has_channels e in cc)
nothing_behind s (Processor p) e f = absurd (let other : has_processors s.stage ≡ false = ap has_processors e in let yes = (both (has_processors s.stage) (p == s.begun) (both (has_processors s.stage && p == s.begun) (nat_lt p s.processors) f).0).0 in cc)
nothing_behind s (Instr instr) e f = absurd (let other : is_processor s.stage ≡ false = ap is_processor e in cc)
nothing_behind s Stop e f = absurd (let other : is_processor s.stage ≡ false = ap is_processor e in let yes = (both (is_processor s.stage) (s.begun == s.processors) f).0 in cc)

-- bytes stand behind the last line
pub read_behind : (text : List ℕ) (s : Said) (number : ℕ) (rest : List ℕ)
    → HasRead text s number rest → is_stopped s.stage ≡ true → rest ≢ [] → IsFirstFault text number IsBadText
read_behind text s number rest h stopped more =
    let at : stage_of h.said ≡ stages.Stopped = stopped_is (stage_of h.said) (sym (ap (λ (x : Said). is_stopped x.stage) h.is_said) ∙ stopped) in
    record {
      older = h.said;
      rest = rest;
      fine = h.fine;
      parts = h.parts;
      number = h.counted;
      faulty = record {
        none = λ l others is begins stands. absurd (nothing_behind (said_by h.said) l at stands);
        goes_on = λ e. more;
      };
    }

-- the text ended with its last line
pub read_end : (text : List ℕ) (s : Said) (number : ℕ) (rest : List ℕ)
    → HasRead text s number rest → is_stopped s.stage ≡ true → rest ≡ [] → StandsFor text (raw_said s)
read_end text s number rest h stopped none =
    let at : stage_of h.said ≡ stages.Stopped = stopped_is (stage_of h.said) (sym (ap (λ (x : Said). is_stopped x.stage) h.is_said) ∙ stopped) in
    let whole : text_said h.said ≡ text = sym (h.parts ∙ ap (λ (r : List ℕ). text_said h.said ++ r) none ∙ append-nil (text_said h.said)) in
    subst (λ (x : Said). StandsFor text (raw_said x)) (sym h.is_said)
    (subst (λ (t : List ℕ). StandsFor t (raw_said (said_by h.said))) whole (fine_end h.said h.fine at))

pub no_rest : (rest : List ℕ) → length rest ≡ 0 → rest ≡ []
no_rest [] h = refl
no_rest (b ∷ rest) h = absurd (omega arith)
