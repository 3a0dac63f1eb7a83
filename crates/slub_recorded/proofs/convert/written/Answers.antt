use Rattle.std.proofs.Common.{ℕ, List, ◌≡◌, ◌≤◌, ◌∙◌, Option, length, map, ap, sym, subst, arith}
use Rattle.std.proofs.lemmas.List.{length-map}
use Rattle.std.proofs.lemmas.Result.{err_from_is_err_and}
use Rattle.slub_recording.specs.declared.recording.Recording.{Recording}
use Rattle.slub_recorded.specs.declared.convert.Options.{Options}
use Rattle.slub_recorded.specs.declared.groups.Cache.{Cache}
use Rattle.slub_recorded.specs.declared.groups.Chosen.{Chosen}
use Rattle.slub_recorded.specs.declared.groups.Groups.{Groups}
use Rattle.slub_recorded.specs.declared.pairing.Fate.{Fate}
use Rattle.slub_recorded.specs.declared.text.Row.{Row}
use Rattle.slub_recorded.specs.declared.told.Note.{Note}
use Rattle.slub_recorded.specs.Converted.{IsLaidOut, caches, place_of, titles}
use Rattle.slub_recorded.specs.Groups.{AreApart, FitTrace, row_of}
use Rattle.slub_recorded.specs.Members.{IsGrouped}
use Rattle.slub_recorded.specs.Told.{Tells}
use Rattle.slub_recorded.proofs.Converts.{caches_are, laid_by, seen_are, text_by, titles_are}
use Rattle.slub_recorded.proofs.Shown.{Lists, shown_by}
use Rattle.slub_recorded.proofs.convert.written.Goals as goal

pub returns : goal.returns
returns c =
    let recording : Recording = c.args.recording.now in
    let options : Options = c.args.options.now in
    let cpus = c.in_ok-cpus.cpus in
    let groups : Groups = c.in_ok-groups.groups in
    let rows : List Row = c.in_ok-shown.shown.items in
    let places : List (Option ℕ) = c.as_slice-5.result.now in
    let named : c.as_slice-named.result.now ≡ titles recording = c.as_slice-named.ensures.value ∙ c.in_ok-titles.ensures
    ∙ titles_are recording c.as_slice.result.now c.in_ok-pairing.pairing c.as_slice-2.result.now c.as_slice-objects.result.now c.as_slice-moves.result.now
    c.in_ok-pairing.ensures c.as_slice.ensures c.as_slice-2.ensures.keys c.as_slice-objects.ensures.value c.as_slice-moves.ensures.value in
    let cached : c.in_ok-caches.caches.caches.items ≡ caches recording = c.in_ok-caches.ensures
    ∙ caches_are recording c.as_slice.result.now c.in_ok-pairing.pairing c.as_slice-named.result.now c.as_slice-objects.result.now c.as_slice-moves.result.now
    c.in_ok-pairing.ensures c.as_slice.ensures named c.as_slice-objects.ensures.value c.as_slice-moves.ensures.value in
    let is : IsGrouped cpus (caches recording) options.group groups = subst (λ (l : List Cache). IsGrouped cpus l options.group groups) (c.as_slice-3.ensures.value ∙ cached) c.in_ok-groups.ensures.grouped in
    let shown : rows ≡ map row_of c.as_slice-4.result.now = c.in_ok-shown.ensures.rows in
    let rows_are : rows ≡ map row_of groups.chosen.items = shown ∙ ap (map row_of) c.as_slice-4.ensures.value in
    let placed : places ≡ map (place_of rows) (titles recording) = c.as_slice-5.ensures.value ∙ c.in_ok-places.ensures ∙ ap (λ r. map (place_of r) c.as_slice-named.result.now) c.as_slice-rows.ensures.value ∙ ap (map (place_of rows)) named in
    let laid : IsLaidOut recording options cpus rows places = laid_by recording options cpus rows places groups c.in_ok-cpus.ensures.asked c.in_ok-cpus.ensures.some c.in_ok-cpus.ensures.few is rows_are c.in_ok-groups.ensures.group c.in_ok-groups.ensures.few placed in
    let chosen : List Chosen = c.as_slice-4.result.now in
    let notes : List Note = c.in_ok-notes.notes.items in
    let listed : List Note = c.in_ok-listed.listed.items in
    let were = seen_are recording c.as_slice.result.now c.in_ok-pairing.pairing c.in_ok-pairing.ensures c.as_slice.ensures in
    let fits : FitTrace chosen = subst FitTrace (sym c.as_slice-4.ensures.value) c.in_ok-groups.ensures.fits in
    let count : length rows ≡ length chosen = ap length shown ∙ length-map chosen row_of in
    let few : length chosen ≤ 32 = fits.few in
    let lists : Lists cpus c.as_slice-8.result.now c.as_slice-7.result.now listed = record { told = c.in_ok-listed.ensures.told; only = c.in_ok-listed.ensures.only } in
    record {
      fault = tt;
      trace = record {
        cpus = cpus;
        rows = rows;
        places = places;
        laid = laid;
        few_objects = c.in_ok-turns.ensures.few;
        few_caches = omega (arith, count, few);
        lines = c.in_ok-shown.ensures.fit;
        apart = subst AreApart (sym shown) fits.apart;
        shown = shown_by recording options cpus rows groups notes listed c.as_slice-9.result.now c.as_slice-7.result.now c.as_slice-8.result.now is rows_are c.in_ok-groups.ensures.group c.in_ok-groups.ensures.few
            c.as_slice-9.ensures.value c.in_ok-notes.ensures.listed (c.as_slice-7.ensures.value ∙ cached) c.as_slice-8.ensures.value lists;
        told = subst (λ (f : List Fate). Tells notes f) (c.as_slice-fates.ensures.value ∙ were.1) c.in_ok-notes.ensures.fates;
        written = text_by recording options c.args.tunes.now cpus rows places c.as_slice-moves.result.now notes c.in_ok-text.text.items c.as_slice-rows.result.now c.in_ok-turns.turns.items c.as_slice-6.result.now c.in_ok-cut.cut.items c.as_slice-steps.result.now c.as_slice-told.result.now c.count-workers.result
            (c.as_slice-moves.ensures.value ∙ were.0) c.as_slice-rows.ensures.value c.in_ok-turns.ensures.turns c.as_slice-6.ensures.value c.in_ok-cut.ensures c.as_slice-steps.ensures.value c.as_slice-told.ensures.value c.count-workers.ensures c.in_ok-text.ensures;
      };
    }

pub returns-in_err-cpus-clause-fault : goal.returns-in_err-cpus-clause-fault
returns-in_err-cpus-clause-fault c =
    let p = err_from_is_err_and c.from_residual.result c.from_residual.ensures.1 in
    rw (p.1, p.2) (c.in_err-cpus.ensures.fault c.args.tunes.now)

pub returns-in_err-turns-clause-fault : goal.returns-in_err-turns-clause-fault
returns-in_err-turns-clause-fault c =
    let recording : Recording = c.args.recording.now in
    let options : Options = c.args.options.now in
    let cpus = c.in_ok-cpus.cpus in
    let groups : Groups = c.in_ok-groups.groups in
    let rows : List Row = c.in_ok-shown.shown.items in
    let places : List (Option ℕ) = c.as_slice-5.result.now in
    let named : c.as_slice-named.result.now ≡ titles recording = c.as_slice-named.ensures.value ∙ c.in_ok-titles.ensures
    ∙ titles_are recording c.as_slice.result.now c.in_ok-pairing.pairing c.as_slice-2.result.now c.as_slice-objects.result.now c.as_slice-moves.result.now
    c.in_ok-pairing.ensures c.as_slice.ensures c.as_slice-2.ensures.keys c.as_slice-objects.ensures.value c.as_slice-moves.ensures.value in
    let cached : c.in_ok-caches.caches.caches.items ≡ caches recording = c.in_ok-caches.ensures
    ∙ caches_are recording c.as_slice.result.now c.in_ok-pairing.pairing c.as_slice-named.result.now c.as_slice-objects.result.now c.as_slice-moves.result.now
    c.in_ok-pairing.ensures c.as_slice.ensures named c.as_slice-objects.ensures.value c.as_slice-moves.ensures.value in
    let is : IsGrouped cpus (caches recording) options.group groups = subst (λ (l : List Cache). IsGrouped cpus l options.group groups) (c.as_slice-3.ensures.value ∙ cached) c.in_ok-groups.ensures.grouped in
    let shown : rows ≡ map row_of c.as_slice-4.result.now = c.in_ok-shown.ensures.rows in
    let rows_are : rows ≡ map row_of groups.chosen.items = shown ∙ ap (map row_of) c.as_slice-4.ensures.value in
    let placed : places ≡ map (place_of rows) (titles recording) = c.as_slice-5.ensures.value ∙ c.in_ok-places.ensures ∙ ap (λ r. map (place_of r) c.as_slice-named.result.now) c.as_slice-rows.ensures.value ∙ ap (map (place_of rows)) named in
    let laid : IsLaidOut recording options cpus rows places = laid_by recording options cpus rows places groups c.in_ok-cpus.ensures.asked c.in_ok-cpus.ensures.some c.in_ok-cpus.ensures.few is rows_are c.in_ok-groups.ensures.group c.in_ok-groups.ensures.few placed in
    let p = err_from_is_err_and c.from_residual-in_err-turns.result c.from_residual-in_err-turns.ensures.1 in
    rw (p.1, p.2) (c.in_err-turns.ensures.fault recording options c.args.tunes.now rows laid)

pub returns-in_err-groups-clause-fault : goal.returns-in_err-groups-clause-fault
returns-in_err-groups-clause-fault c =
    let recording : Recording = c.args.recording.now in
    let named : c.as_slice-named.result.now ≡ titles recording = c.as_slice-named.ensures.value ∙ c.in_ok-titles.ensures
    ∙ titles_are recording c.as_slice.result.now c.in_ok-pairing.pairing c.as_slice-2.result.now c.as_slice-objects.result.now c.as_slice-moves.result.now
    c.in_ok-pairing.ensures c.as_slice.ensures c.as_slice-2.ensures.keys c.as_slice-objects.ensures.value c.as_slice-moves.ensures.value in
    let cached : c.in_ok-caches.caches.caches.items ≡ caches recording = c.in_ok-caches.ensures
    ∙ caches_are recording c.as_slice.result.now c.in_ok-pairing.pairing c.as_slice-named.result.now c.as_slice-objects.result.now c.as_slice-moves.result.now
    c.in_ok-pairing.ensures c.as_slice.ensures named c.as_slice-objects.ensures.value c.as_slice-moves.ensures.value in
    let p = err_from_is_err_and c.from_residual-in_err-groups.result c.from_residual-in_err-groups.ensures.1 in
    rw (p.1, p.2) (c.in_err-groups.ensures.fault recording c.args.tunes.now (c.as_slice-3.ensures.value ∙ cached) c.in_ok-cpus.ensures.asked)
