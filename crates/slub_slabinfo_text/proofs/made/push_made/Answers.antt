use Rattle.std.proofs.Common.{◌≡◌, get_or, ℕ, List, [], OnOk, ◌++◌, subst, sym, ◌∙◌}
use Rattle.std.specs.Prelude.{flat_map}
use Rattle.slub_slabinfo_text.specs.declared.text.ItemWord.TheVariants as word
use Rattle.slub_slabinfo_text.specs.Texts.{info_text}
use Rattle.slub_slabinfo_text.specs.ClientText.{client_text}
use Rattle.slub_slabinfo_text.specs.Lines.{answer_line, found_text}
use Rattle.slub_slabinfo_text.specs.Made.{made_of}
use Rattle.slub_slabinfo_text.proofs.ItemTexts.{client_lines, creation_text, no_client_text, destroy_text, damages_text, no_creation_text, no_destroy_text, no_damages_text, no_shrink_text, no_slabinfo_text, no_tune_text, put_nothing, shrink_text, slabinfo_text, made_at_is, tune_text}
use Rattle.slub_slabinfo_text.proofs.made.push_made.Goals as goal

pub returns-in_default : goal.returns-in_default
returns-in_default c =
    let at : c.index-as_slice-number.result ≡ get_or c.args.trace.now.items c.args.number c.index-as_slice-number.result = rw (← c.as_slice.ensures) c.index-as_slice-number.is in
    let text = made_at_is c.args.replies c.args.trace.now c.args.number c.index-as_slice-number.result c.args.done.now c.requires.within at in
    let none : made_of c.args.replies c.args.trace.now c.index-as_slice-number.result c.args.done.now ≡ [] =
    rw c.in_default.is-0 (no_creation_text c.args.replies c.args.trace.now _ _ c.args.done.now c.in_default.not-Created-1) in
    put_nothing c.args.text.now.items _ (text ∙ none)

pub returns-in_default-2 : goal.returns-in_default-2
returns-in_default-2 c =
    let at : c.index-as_slice-number.result ≡ get_or c.args.trace.now.items c.args.number c.index-as_slice-number.result = rw (← c.as_slice.ensures) c.index-as_slice-number.is in
    let text = made_at_is c.args.replies c.args.trace.now c.args.number c.index-as_slice-number.result c.args.done.now c.requires.within at in
    let none : made_of c.args.replies c.args.trace.now c.index-as_slice-number.result c.args.done.now ≡ [] =
    rw c.in_default.is-0 (no_damages_text c.args.replies c.args.trace.now _ c.args.done.now c.in_default.not-Round-1) in
    put_nothing c.args.text.now.items _ (text ∙ none)

pub returns-in_default-3 : goal.returns-in_default-3
returns-in_default-3 c =
    let at : c.index-as_slice-number.result ≡ get_or c.args.trace.now.items c.args.number c.index-as_slice-number.result = rw (← c.as_slice.ensures) c.index-as_slice-number.is in
    let text = made_at_is c.args.replies c.args.trace.now c.args.number c.index-as_slice-number.result c.args.done.now c.requires.within at in
    let none : made_of c.args.replies c.args.trace.now c.index-as_slice-number.result c.args.done.now ≡ [] =
    rw c.in_default.is-0 (no_shrink_text c.args.replies c.args.trace.now _ c.args.done.now c.in_default.not-Shrunk-1) in
    put_nothing c.args.text.now.items _ (text ∙ none)

pub returns-in_default-4 : goal.returns-in_default-4
returns-in_default-4 c =
    let at : c.index-as_slice-number.result ≡ get_or c.args.trace.now.items c.args.number c.index-as_slice-number.result = rw (← c.as_slice.ensures) c.index-as_slice-number.is in
    let text = made_at_is c.args.replies c.args.trace.now c.args.number c.index-as_slice-number.result c.args.done.now c.requires.within at in
    let none : made_of c.args.replies c.args.trace.now c.index-as_slice-number.result c.args.done.now ≡ [] =
    rw c.in_default.is-0 (no_destroy_text c.args.replies c.args.trace.now _ c.args.done.now c.in_default.not-Destroyed-1) in
    put_nothing c.args.text.now.items _ (text ∙ none)

pub returns-in_default-5 : goal.returns-in_default-5
returns-in_default-5 c =
    let at : c.index-as_slice-number.result ≡ get_or c.args.trace.now.items c.args.number c.index-as_slice-number.result = rw (← c.as_slice.ensures) c.index-as_slice-number.is in
    let text = made_at_is c.args.replies c.args.trace.now c.args.number c.index-as_slice-number.result c.args.done.now c.requires.within at in
    let none : made_of c.args.replies c.args.trace.now c.index-as_slice-number.result c.args.done.now ≡ [] =
    rw c.in_default.is-0 (no_slabinfo_text c.args.replies c.args.trace.now c.args.done.now c.in_default.not-Slabinfo-1) in
    put_nothing c.args.text.now.items _ (text ∙ none)

pub returns-in_default-6 : goal.returns-in_default-6
returns-in_default-6 c =
    let at : c.index-as_slice-number.result ≡ get_or c.args.trace.now.items c.args.number c.index-as_slice-number.result = rw (← c.as_slice.ensures) c.index-as_slice-number.is in
    let text = made_at_is c.args.replies c.args.trace.now c.args.number c.index-as_slice-number.result c.args.done.now c.requires.within at in
    let none : made_of c.args.replies c.args.trace.now c.index-as_slice-number.result c.args.done.now ≡ [] =
    rw c.in_default.is-0 (no_tune_text c.args.replies c.args.trace.now _ _ c.args.done.now c.in_default.not-Tuned-1) in
    put_nothing c.args.text.now.items _ (text ∙ none)

pub returns-in-Cache-Created : goal.returns-in-Cache-Created
returns-in-Cache-Created c =
    let at : c.index-as_slice-number.result ≡ get_or c.args.trace.now.items c.args.number c.index-as_slice-number.result = rw (← c.as_slice.ensures) c.index-as_slice-number.is in
    let text = made_at_is c.args.replies c.args.trace.now c.args.number c.index-as_slice-number.result c.args.done.now c.requires.within at in
    let line : made_of c.args.replies c.args.trace.now c.index-as_slice-number.result c.args.done.now ≡ answer_line c.args.replies word.Cache c.name_of.result.now c.created_answer-answer.result =
    rw (c.in-Cache-Created.is-0, c.in-Cache-Created.is-1, c.name_of.ensures, c.created_answer-answer.ensures) (creation_text c.args.replies c.args.trace.now _ _ _) in
    subst (λ (lines : List ℕ). OnOk c.push_answer.result (c.push_answer.new.text.items ≡ c.args.text.now.items ++ lines)) (sym (text ∙ line)) c.push_answer.ensures

pub returns-in-Shrink-Shrunk : goal.returns-in-Shrink-Shrunk
returns-in-Shrink-Shrunk c =
    let at : c.index-as_slice-number.result ≡ get_or c.args.trace.now.items c.args.number c.index-as_slice-number.result = rw (← c.as_slice.ensures) c.index-as_slice-number.is in
    let text = made_at_is c.args.replies c.args.trace.now c.args.number c.index-as_slice-number.result c.args.done.now c.requires.within at in
    let line : made_of c.args.replies c.args.trace.now c.index-as_slice-number.result c.args.done.now ≡ answer_line c.args.replies word.Shrink c.name_of-in-Shrink-Shrunk.result.now c.shrunk_answer-answer.result =
    rw (c.in-Shrink-Shrunk.is-0, c.in-Shrink-Shrunk.is-1, c.name_of-in-Shrink-Shrunk.ensures, c.shrunk_answer-answer.ensures) (shrink_text c.args.replies c.args.trace.now _ _) in
    subst (λ (lines : List ℕ). OnOk c.push_answer-in-Shrink-Shrunk.result (c.push_answer-in-Shrink-Shrunk.new.text.items ≡ c.args.text.now.items ++ lines)) (sym (text ∙ line)) c.push_answer-in-Shrink-Shrunk.ensures

pub returns-in-Destroy-Destroyed : goal.returns-in-Destroy-Destroyed
returns-in-Destroy-Destroyed c =
    let at : c.index-as_slice-number.result ≡ get_or c.args.trace.now.items c.args.number c.index-as_slice-number.result = rw (← c.as_slice.ensures) c.index-as_slice-number.is in
    let text = made_at_is c.args.replies c.args.trace.now c.args.number c.index-as_slice-number.result c.args.done.now c.requires.within at in
    let line : made_of c.args.replies c.args.trace.now c.index-as_slice-number.result c.args.done.now ≡ answer_line c.args.replies word.Destroy c.name_of-in-Destroy-Destroyed.result.now c.destroyed_answer-answer.result =
    rw (c.in-Destroy-Destroyed.is-0, c.in-Destroy-Destroyed.is-1, c.name_of-in-Destroy-Destroyed.ensures, c.destroyed_answer-answer.ensures) (destroy_text c.args.replies c.args.trace.now _ _) in
    subst (λ (lines : List ℕ). OnOk c.push_answer-in-Destroy-Destroyed.result (c.push_answer-in-Destroy-Destroyed.new.text.items ≡ c.args.text.now.items ++ lines)) (sym (text ∙ line)) c.push_answer-in-Destroy-Destroyed.ensures

pub returns-in-Round-Round : goal.returns-in-Round-Round
returns-in-Round-Round c =
    let at : c.index-as_slice-number.result ≡ get_or c.args.trace.now.items c.args.number c.index-as_slice-number.result = rw (← c.as_slice.ensures) c.index-as_slice-number.is in
    let text = made_at_is c.args.replies c.args.trace.now c.args.number c.index-as_slice-number.result c.args.done.now c.requires.within at in
    let lines : made_of c.args.replies c.args.trace.now c.index-as_slice-number.result c.args.done.now ≡ flat_map found_text c.as_slice-in-Round-Round.result.now =
    rw (c.in-Round-Round.is-0, c.in-Round-Round.is-1, c.as_slice-in-Round-Round.ensures) (damages_text c.args.replies c.args.trace.now _ _) in
    subst (λ (lines : List ℕ). OnOk c.push_damages.result (c.push_damages.new.text.items ≡ c.args.text.now.items ++ lines)) (sym (text ∙ lines)) c.push_damages.ensures

pub returns-in-Slabinfo-Slabinfo : goal.returns-in-Slabinfo-Slabinfo
returns-in-Slabinfo-Slabinfo c =
    let at : c.index-as_slice-number.result ≡ get_or c.args.trace.now.items c.args.number c.index-as_slice-number.result = rw (← c.as_slice.ensures) c.index-as_slice-number.is in
    let text = made_at_is c.args.replies c.args.trace.now c.args.number c.index-as_slice-number.result c.args.done.now c.requires.within at in
    let lines : made_of c.args.replies c.args.trace.now c.index-as_slice-number.result c.args.done.now ≡ info_text c.as_slice-in-Slabinfo-Slabinfo.result.now =
    rw (c.in-Slabinfo-Slabinfo.is-0, c.in-Slabinfo-Slabinfo.is-1, c.as_slice-in-Slabinfo-Slabinfo.ensures) (slabinfo_text c.args.replies c.args.trace.now _) in
    subst (λ (lines : List ℕ). OnOk c.push_slabinfo.result (c.push_slabinfo.new.text.items ≡ c.args.text.now.items ++ lines)) (sym (text ∙ lines)) c.push_slabinfo.ensures

pub returns-in-Tune-Tuned : goal.returns-in-Tune-Tuned
returns-in-Tune-Tuned c =
    let at : c.index-as_slice-number.result ≡ get_or c.args.trace.now.items c.args.number c.index-as_slice-number.result = rw (← c.as_slice.ensures) c.index-as_slice-number.is in
    let text = made_at_is c.args.replies c.args.trace.now c.args.number c.index-as_slice-number.result c.args.done.now c.requires.within at in
    let line : made_of c.args.replies c.args.trace.now c.index-as_slice-number.result c.args.done.now ≡ answer_line c.args.replies word.Tune c.name_of-in-Tune-Tuned.result.now c.tuned_answer-answer.result =
    rw (c.in-Tune-Tuned.is-0, c.in-Tune-Tuned.is-1, c.name_of-in-Tune-Tuned.ensures, c.tuned_answer-answer.ensures) (tune_text c.args.replies c.args.trace.now _ _ _) in
    subst (λ (lines : List ℕ). OnOk c.push_answer-in-Tune-Tuned.result (c.push_answer-in-Tune-Tuned.new.text.items ≡ c.args.text.now.items ++ lines)) (sym (text ∙ line)) c.push_answer-in-Tune-Tuned.ensures

pub returns-in-Client-Client : goal.returns-in-Client-Client
returns-in-Client-Client c =
    let at : c.index-as_slice-number.result ≡ get_or c.args.trace.now.items c.args.number c.index-as_slice-number.result = rw (← c.as_slice.ensures) c.index-as_slice-number.is in
    let text = made_at_is c.args.replies c.args.trace.now c.args.number c.index-as_slice-number.result c.args.done.now c.requires.within at in
    let lines : made_of c.args.replies c.args.trace.now c.index-as_slice-number.result c.args.done.now ≡ client_text c.args.replies c.in-Client-Client.client c.in-Client-Client.outcome =
    rw (c.in-Client-Client.is-0, c.in-Client-Client.is-1) (client_lines c.args.replies c.args.trace.now _ _) in
    subst (λ (lines : List ℕ). OnOk c.push_client.result (c.push_client.new.text.items ≡ c.args.text.now.items ++ lines)) (sym (text ∙ lines)) c.push_client.ensures

pub returns-in_default-7 : goal.returns-in_default-7
returns-in_default-7 c =
    let at : c.index-as_slice-number.result ≡ get_or c.args.trace.now.items c.args.number c.index-as_slice-number.result = rw (← c.as_slice.ensures) c.index-as_slice-number.is in
    let text = made_at_is c.args.replies c.args.trace.now c.args.number c.index-as_slice-number.result c.args.done.now c.requires.within at in
    let none : made_of c.args.replies c.args.trace.now c.index-as_slice-number.result c.args.done.now ≡ [] =
    rw c.in_default.is-0 (no_client_text c.args.replies c.args.trace.now _ c.args.done.now c.in_default.not-Client-1) in
    put_nothing c.args.text.now.items _ (text ∙ none)
