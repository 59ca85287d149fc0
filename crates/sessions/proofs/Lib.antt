pub mod CallsAgree
pub mod CallsTheorem
pub mod Ends
pub mod RefusalLaws
pub mod SessionCode
