-- From the reading of a text to the bytes of its source.
use Rattle.std.proofs.Common.{◌≡◌, ℕ, ◌≤◌, ◌⊎◌, inl, inr, List, length, Result, Ok, Err, sym, subst, ◌∙◌}
use Rattle.std.specs.Prelude.{IfOk, IfErr}
use Rattle.exam_text.specs.First.{Gives}
use Rattle.exam_text.specs.Words.{lines_of}
use Rattle.history_model.specs.declared.request.Request.{Request}
use Rattle.replay_cli.specs.declared.script_fault.ScriptFault.{ScriptFault}
use Rattle.replay_cli.specs.declared.script_fault.ScriptFault.TheVariants.{Source, Line, Memory}
use Rattle.replay_cli.specs.Scripts.{IsScript}
use Rattle.replay_cli.specs.Reading.{requests_of, most_bytes, IsScriptFault}
use Rattle.replay_cli.proofs.ReadLaws.{read_is, fault_is, IsLineFault, no_fault}

-- what was read of a text; the text is all bytes of the source, if the source reports them
pub found_in : {X : Type 0} (view : X → List Request) (text bytes : List ℕ) (Reports : Type 0) (r : Result X ScriptFault)
    → (Reports → text ≡ bytes) → Gives Memory view r (requests_of (lines_of text)) → IfOk r (λ x. Reports → IsScript bytes (view x))
found_in view text bytes Reports (Ok x) same g = λ reported. subst (λ (l : List ℕ). IsScript l (view x)) (same reported) (read_is text (view x) g)
found_in view text bytes Reports (Err e) same g = tt

fault_from : (text : List ℕ) (e : ScriptFault) → length text ≤ most_bytes → IsLineFault text e → IsScriptFault text e
fault_from text e within is = subst (IsScriptFault text) (sym is.is) (within, is.first)

pub fault_in : {X : Type 0} (view : X → List Request) (text bytes : List ℕ) (Reports : Type 0) (r : Result X ScriptFault)
    → (Reports → text ≡ bytes) → length text ≤ most_bytes → Gives Memory view r (requests_of (lines_of text)) → IfErr r (λ e. Reports → IsScriptFault bytes e)
fault_in view text bytes Reports (Ok x) same within g = tt
fault_in view text bytes Reports (Err e) same within (inl memory) = λ reported. subst (IsScriptFault bytes) (sym memory) tt
fault_in view text bytes Reports (Err e) same within (inr line) = λ reported.
    subst (λ (l : List ℕ). IsScriptFault l e) (same reported) (fault_from text e within (fault_is text e line))

pub only_in : {X : Type 0} (view : X → List Request) (text bytes : List ℕ) (Reports : Type 0) (r : Result X ScriptFault)
    → (Reports → text ≡ bytes) → Gives Memory view r (requests_of (lines_of text))
    → IfErr r (λ e. Reports → length bytes ≤ most_bytes → (requests : List Request) → IsScript bytes requests → (e ≡ Memory) ⊎ (e ≡ Source))
only_in view text bytes Reports (Ok x) same g = tt
only_in view text bytes Reports (Err e) same (inl memory) = λ reported within requests is. inl memory
only_in view text bytes Reports (Err e) same (inr line) = λ reported within requests is.
    let fault = fault_is text e line in
    let script : IsScript text requests = subst (λ (l : List ℕ). IsScript l requests) (sym (same reported)) is in
    absurd (no_fault text requests fault.line script fault.first)

memory_no_source : Memory ≡ Source → ⊥
memory_no_source e = absurd cc

line_no_source : (n : ℕ) → Line n ≡ Source → ⊥
line_no_source n e = absurd cc

-- a text that was read has no fault of its source
pub no_source : {X : Type 0} (view : X → List Request) (text : List ℕ) (Claim : Type 0) (r : Result X ScriptFault)
    → Gives Memory view r (requests_of (lines_of text)) → IfErr r (λ e. e ≡ Source → Claim)
no_source view text Claim (Ok x) g = tt
no_source view text Claim (Err e) (inl memory) = λ source. absurd (memory_no_source (sym memory ∙ source))
no_source view text Claim (Err e) (inr line) = λ source.
    let fault = fault_is text e line in absurd (line_no_source fault.line (sym fault.is ∙ source))
