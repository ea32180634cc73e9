use Rattle.rbacd.proofs.run.run_named.Goals as goal

pub returns-in-CheckConfig : goal.returns-in-CheckConfig
returns-in-CheckConfig g c = rw c.in-CheckConfig.is (rw c.as_str.ensures.value at c.check_config.ensures)

pub returns-in-Check : goal.returns-in-Check
returns-in-Check g c = rw c.in-Check.is c.run_check.ensures

pub returns-in-Judge : goal.returns-in-Judge
returns-in-Judge g c = rw c.in-Judge.is c.run_judge.ensures

pub returns-in-Replay : goal.returns-in-Replay
returns-in-Replay g c = rw c.in-Replay.is c.replay_config.ensures

pub returns-in-Control : goal.returns-in-Control
returns-in-Control g c = rw c.in-Control.is c.run_control.ensures

pub returns-in-Proxy : goal.returns-in-Proxy
returns-in-Proxy g c = rw c.in-Proxy.is c.run_proxy.ensures

pub returns-in-Batch : goal.returns-in-Batch
returns-in-Batch g c = rw c.in-Batch.is c.run_batch.ensures

pub returns-in-Serve : goal.returns-in-Serve
returns-in-Serve g c = rw c.in-Serve.is c.run_serve.ensures

pub run_control-requires : goal.run_control-requires
run_control-requires g c = rw c.in-Control.is at c.requires
